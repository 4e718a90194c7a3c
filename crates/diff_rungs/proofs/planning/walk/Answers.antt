use Rattle.std.proofs.Common.{arith, refl}
use Rattle.diff_rungs.proofs.Ending.{begins}
use Rattle.diff_rungs.proofs.planning.walk.Goals as goal

pub loop-init : goal.loop-init
loop-init c = record {
  within = record { old = omega arith; new = omega arith };
  reached = begins c.args.versions.old.now c.args.versions.new.now c.args.versions.matching.now c.requires c.new-leaps.result.items c.args.marks.now;
  many = record { variables = refl; instances = refl; memories = refl };
}
