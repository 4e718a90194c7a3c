use Rattle.io_text.specs.Buffer.{SendsAll}
use Rattle.text_power.specs.Show.{each}
use Rattle.text_drawing.specs.Notes.{place_note}
use Rattle.text_drawing.proofs.notes.add_rung_notes.Given as goal

abbrev pub invariant-loop-at : goal.invariant-loop-at
invariant-loop-at g l =
    SendsAll (g.W.Sink.log l.fn.writer) (g.W.Sink.log l.writer) l.fn.buffer l.buffer (each (place_note l.picture.program.now l.picture.after.now l.picture.marks.now l.rung) l.at)
