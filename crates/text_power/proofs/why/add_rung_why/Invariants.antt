use Rattle.io_text.specs.Buffer.{SendsAll}
use Rattle.text_power.specs.Show.{each}
use Rattle.text_power.specs.Why.{place_notes}
use Rattle.text_power.proofs.why.add_rung_why.Given as goal

abbrev pub invariant-loop-at : goal.invariant-loop-at
invariant-loop-at g l =
    SendsAll (g.W.Sink.log l.fn.writer) (g.W.Sink.log l.writer) l.fn.buffer l.buffer (each (place_notes l.rung.program.now l.rung.marks.now l.var l.rung.number) l.at)
