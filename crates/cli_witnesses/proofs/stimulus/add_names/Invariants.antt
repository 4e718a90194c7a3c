use Rattle.std.proofs.Common.{map, take}
use Rattle.cli_witnesses.specs.Stimulus.{declared_name}
use Rattle.io_text.specs.Buffer.{SendsAll}
use Rattle.io_text.specs.Text.{after_commas}
use Rattle.cli_witnesses.proofs.stimulus.add_names.Given as goal

abbrev pub invariant-loop-pair : goal.invariant-loop-pair
invariant-loop-pair g l =
    SendsAll (g.W.Sink.log l.fn.writer) (g.W.Sink.log l.writer) l.fn.buffer l.buffer (after_commas (map (λ x. declared_name l.program x.old) (take l.pair-index l.inputs)))
