use Rattle.io_text.specs.Buffer.{SendsAll}
use Rattle.text_drawing.specs.Page.{drawn_place}
use Rattle.text_drawing.specs.Pictures.{looks_of}
use Rattle.text_power.specs.Show.{each}
use Rattle.text_drawing.proofs.page.add_places.Given as goal

abbrev pub invariant-loop-at : goal.invariant-loop-at
invariant-loop-at g l =
    SendsAll (g.W.Sink.log l.fn.writer) (g.W.Sink.log l.writer) l.fn.buffer l.buffer (each (drawn_place (looks_of l.line) l.line.text.now) l.at)
