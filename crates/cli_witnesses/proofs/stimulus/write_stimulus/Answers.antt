use Rattle.io_text.proofs.Sending.{flush_last}
use Rattle.cli_witnesses.specs.Stimulus.{stimulus_text}
use Rattle.cli_witnesses.proofs.stimulus.write_stimulus.Goals as goal

pub returns : goal.returns
returns g c =
    flush_last _ _ _ _ (stimulus_text c.args.program.now c.args.matching.now c.args.state.now) _ (rw c.new-buffer.ensures at c.in_ok-add_all.ensures) c.flush.ensures.wrote
