use Rattle.std.specs.Prelude.{map, take}
use Rattle.io_text.specs.Text.{after_commas}
use Rattle.io_text.specs.Buffer.{SendsAll}
use Rattle.text_trace.specs.Watching.{column_text}
use Rattle.text_trace.proofs.watching.add_column_values.Given as goal

abbrev pub invariant-loop-column : goal.invariant-loop-column
invariant-loop-column g l =
    SendsAll (g.W.Sink.log l.fn.writer) (g.W.Sink.log l.writer) l.fn.buffer l.buffer (after_commas (map (column_text l.decls l.state) (take l.column-index l.watched)))
