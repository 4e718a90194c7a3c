use Rattle.cli_reach.specs.Asking.{question_of}
use Rattle.cli_reach.proofs.Replayed.{replayed}
use Rattle.cli_reach.proofs.replaying.is_replayed.Goals as goal

pub returns : goal.returns
returns c =
    replayed (question_of c.args.asked.now) c.args.run.now c.requires.fits c.requires.from c.requires.switches c.moments_are_small.ensures
    c.is_simulated.ensures c.is_brief_simulated.ensures
