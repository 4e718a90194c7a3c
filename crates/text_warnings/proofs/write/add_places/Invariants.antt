use Rattle.std.specs.Prelude.{◌≡◌, ◌≤◌, ◌*◌, length}
use Rattle.io_text.specs.Text.{lines_text}
use Rattle.io_text.specs.Buffer.{SendsAll}
use Rattle.text_warnings.specs.Decided.{decided}
use Rattle.text_warnings.specs.Warnings.{rows_at}
use Rattle.text_warnings.proofs.Rows.{rows_to}
use Rattle.text_warnings.proofs.write.add_places.Given as goal

abbrev pub invariant-loop-place : goal.invariant-loop-place
invariant-loop-place g l =
    SendsAll (g.W.Sink.log l.fn.writer) (g.W.Sink.log l.writer) l.fn.buffer l.buffer (lines_text (rows_to (rows_at decided l.program) l.place))
    × (l.rows ≡ length (rows_to (rows_at decided l.program) l.place))
    × (l.rows ≤ 7 * l.place)
