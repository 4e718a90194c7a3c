use Rattle.scan_cycle.specs.Programs.{diagram_of}
use Rattle.scan_held.proofs.Repeating.{repeats}
use Rattle.scan_held.proofs.laws.repeats.Goals as goal

pub returns : goal.returns
returns c = repeats (diagram_of c.args.program.now) c.goes_on_alike.ensures
