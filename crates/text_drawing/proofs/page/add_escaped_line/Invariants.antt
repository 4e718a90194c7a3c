use Rattle.std.specs.Prelude.{slice_index_or}
use Rattle.diagram_program.specs.Bytes.{space}
use Rattle.io_text.specs.Buffer.{SendsAll}
use Rattle.text_drawing.specs.Page.{escaped}
use Rattle.text_power.specs.Show.{each}
use Rattle.text_drawing.proofs.page.add_escaped_line.Given as goal

abbrev pub invariant-loop-at : goal.invariant-loop-at
invariant-loop-at g l =
    SendsAll (g.W.Sink.log l.fn.writer) (g.W.Sink.log l.writer) l.fn.buffer l.buffer (each (λ at. escaped (slice_index_or l.text at space)) l.at)
