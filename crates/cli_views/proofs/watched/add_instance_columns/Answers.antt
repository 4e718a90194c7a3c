use Rattle.std.proofs.Common.{◌∙◌, sym}
use Rattle.cli_views.proofs.Growing.{with_further}
use Rattle.cli_views.proofs.watched.add_instance_columns.Goals as goal

pub returns-clause-ok : goal.returns-clause-ok
returns-clause-ok c =
    with_further c.args.columns.now.items c.add_column.new.columns.items c.add_column-2.new.columns.items _ c.in-Some.column _ c.in_ok-add_column.ensures.ok
    (sym c.further.ensures ∙ c.in-Some.is) c.in_ok-add_column-2.ensures.ok
