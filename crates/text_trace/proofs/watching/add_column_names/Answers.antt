use Rattle.std.proofs.Common.{◌+◌, drop, map, sym, take}
use Rattle.io_text.specs.Text.{after_commas}
use Rattle.io_text.proofs.Commas.{commas_cut, commas_more}
use Rattle.io_text.proofs.Sending.{sends_prefix, sends_more, sends_same, sends_err}
use Rattle.text_trace.specs.declared.column.Column.TheVariants as column
use Rattle.text_trace.specs.Watching.{column_name}
use Rattle.text_trace.proofs.watching.add_column_names.Goals as goal

pub loop-column-preserved : goal.loop-column-preserved
loop-column-preserved g c =
    let name = column_name c.args.decls.now in
    let columns = c.args.watched.now in
    let i = c.loop-column.column-index in
    sends_same _ _ _ _ _ _ (sym (commas_more name columns i (column.Value 0) c.loop-column-test.true))
    (sends_more _ _ _ _ _ _ (after_commas (map name (take i columns))) _ c.loop-column.invariant c.in_ok-add_column_name.ensures)

pub returns-in_err-add_column_name : goal.returns-in_err-add_column_name
returns-in_err-add_column_name g c = sends_err _ _ _ _ _ _ c.from_residual.ensures.0
    (let name = column_name c.args.decls.now in
    let columns = c.args.watched.now in
    let i = c.loop-column.column-index in
    sends_prefix _ _ _ _ _ _ (after_commas (map name (take i columns))) _ (after_commas (map name (drop (i + 1) columns)))
    (commas_cut name columns i (column.Value 0) c.loop-column-test.true) c.loop-column.invariant c.in_err-add_column_name.ensures)
