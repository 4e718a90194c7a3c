use Rattle.scan_cycle.specs.Programs.{diagram_of}
use Rattle.scan_cycle.proofs.Marks.{one_sight}
use Rattle.scan_cycle.proofs.laws.one_sight.Goals as goal

pub returns : goal.returns
returns c = one_sight (diagram_of c.args.program.now) c.checked.ensures.forward
