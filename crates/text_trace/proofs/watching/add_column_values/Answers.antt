use Rattle.std.proofs.Common.{◌+◌, drop, map, sym, take}
use Rattle.io_text.specs.Text.{after_commas}
use Rattle.io_text.proofs.Commas.{commas_cut, commas_more}
use Rattle.io_text.proofs.Sending.{sends_prefix, sends_more, sends_same, sends_err}
use Rattle.text_trace.specs.declared.column.Column.TheVariants as column
use Rattle.text_trace.specs.Watching.{column_text}
use Rattle.text_trace.proofs.watching.add_column_values.Goals as goal

pub loop-column-preserved : goal.loop-column-preserved
loop-column-preserved g c =
    let text = column_text c.args.decls.now c.args.state.now in
    let columns = c.args.watched.now in
    let i = c.loop-column.column-index in
    sends_same _ _ _ _ _ _ (sym (commas_more text columns i (column.Value 0) c.loop-column-test.true))
    (sends_more _ _ _ _ _ _ (after_commas (map text (take i columns))) _ c.loop-column.invariant c.in_ok-add_column_value.ensures)

pub returns-in_err-add_column_value : goal.returns-in_err-add_column_value
returns-in_err-add_column_value g c = sends_err _ _ _ _ _ _ c.from_residual.ensures.0
    (let text = column_text c.args.decls.now c.args.state.now in
    let columns = c.args.watched.now in
    let i = c.loop-column.column-index in
    sends_prefix _ _ _ _ _ _ (after_commas (map text (take i columns))) _ (after_commas (map text (drop (i + 1) columns)))
    (commas_cut text columns i (column.Value 0) c.loop-column-test.true) c.loop-column.invariant c.in_err-add_column_value.ensures)
