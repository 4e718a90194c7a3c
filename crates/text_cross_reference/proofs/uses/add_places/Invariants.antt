use Rattle.std.specs.Prelude.{◌≡◌, ◌≤◌, length}
use Rattle.io_text.specs.Text.{lines_text}
use Rattle.io_text.specs.Buffer.{SendsAll}
use Rattle.text_cross_reference.proofs.Rows.{rows_before}
use Rattle.text_cross_reference.proofs.uses.add_places.Given as goal

abbrev pub invariant-loop-place : goal.invariant-loop-place
invariant-loop-place g l =
    SendsAll (g.W.Sink.log l.fn.writer) (g.W.Sink.log l.writer) l.fn.buffer l.buffer (lines_text (rows_before l.program l.name l.symbol l.place))
    × (l.rows ≡ length (rows_before l.program l.name l.symbol l.place))
    × (l.rows ≤ l.place)
