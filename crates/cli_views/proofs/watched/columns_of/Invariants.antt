use Rattle.std.proofs.Common.{◌≡◌, take}
use Rattle.cli_views.specs.Watched.{all_columns}
use Rattle.cli_views.proofs.watched.columns_of.Given as goal

abbrev pub invariant-loop-symbol : goal.invariant-loop-symbol
invariant-loop-symbol l = l.columns.items ≡ all_columns l.decls (take l.symbol-index l.watched)
