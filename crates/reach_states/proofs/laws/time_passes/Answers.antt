use Rattle.scan_cycle.specs.Programs.{diagram_of}
use Rattle.reach_states.proofs.Splitting.{time_passes}
use Rattle.reach_states.proofs.laws.time_passes.Goals as goal

pub returns : goal.returns
returns c = time_passes (diagram_of c.args.program.now)
