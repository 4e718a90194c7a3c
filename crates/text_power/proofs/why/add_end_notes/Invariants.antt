use Rattle.io_text.specs.Buffer.{SendsAll}
use Rattle.text_power.specs.Show.{each}
use Rattle.text_power.specs.Why.{end_note}
use Rattle.text_power.proofs.why.add_end_notes.Given as goal

abbrev pub invariant-loop-end : goal.invariant-loop-end
invariant-loop-end g l =
    SendsAll (g.W.Sink.log l.fn.writer) (g.W.Sink.log l.writer) l.fn.buffer l.buffer (each (end_note l.rung.program.now l.rung.marks.now l.rung.number l.at) l.end)
