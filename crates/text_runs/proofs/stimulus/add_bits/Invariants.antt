use Rattle.std.proofs.Common.{map, take}
use Rattle.io_text.specs.Buffer.{SendsAll}
use Rattle.io_text.specs.Text.{after_commas, bit_text}
use Rattle.text_runs.proofs.stimulus.add_bits.Given as goal

abbrev pub invariant-loop-value : goal.invariant-loop-value
invariant-loop-value g l =
    SendsAll (g.W.Sink.log l.fn.writer) (g.W.Sink.log l.writer) l.fn.buffer l.buffer (after_commas (map bit_text (take l.value-index l.inputs)))
