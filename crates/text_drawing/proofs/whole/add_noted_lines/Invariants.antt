use Rattle.io_text.specs.Buffer.{SendsAll}
use Rattle.text_power.specs.Show.{each}
use Rattle.text_drawing.specs.Notes.{kept_line}
use Rattle.text_drawing.specs.Pictures.{lines_drawn, of_picture}
use Rattle.text_drawing.proofs.whole.add_noted_lines.Given as goal

abbrev pub invariant-loop-line : goal.invariant-loop-line
invariant-loop-line g l =
    SendsAll (g.W.Sink.log l.fn.writer) (g.W.Sink.log l.writer) l.fn.buffer l.buffer
    (each (of_picture (kept_line (lines_drawn l.picture)) l.picture) l.line)
