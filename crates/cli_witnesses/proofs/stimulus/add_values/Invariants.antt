use Rattle.std.proofs.Common.{false, map, take}
use Rattle.std.specs.Prelude.{slice_index_or}
use Rattle.io_text.specs.Buffer.{SendsAll}
use Rattle.io_text.specs.Text.{after_commas, bit_text}
use Rattle.cli_witnesses.proofs.stimulus.add_values.Given as goal

abbrev pub invariant-loop-pair : goal.invariant-loop-pair
invariant-loop-pair g l =
    SendsAll (g.W.Sink.log l.fn.writer) (g.W.Sink.log l.writer) l.fn.buffer l.buffer (after_commas (map (λ x. bit_text (slice_index_or l.state.held.values x.old false)) (take l.pair-index l.inputs)))
