use Rattle.scan_cycle.specs.Programs.{diagram_of}
use Rattle.invariant_sets.proofs.Larger.{leaves_so}
use Rattle.invariant_sets.proofs.laws.leaves_so.Goals as goal

pub returns : goal.returns
returns c = leaves_so c.args.program.now (c.scan_keeps.ensures (record { now = 0 }) (diagram_of c.args.program.now))
