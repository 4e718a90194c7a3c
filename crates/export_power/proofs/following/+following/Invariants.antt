use Rattle.std.proofs.Common.{◌+◌, ◌*◌, max}
use Rattle.draw_power.specs.Parts.{depth}
use Rattle.export_power.proofs.following.+following.Given as goal

abbrev pub decreases-before : goal.decreases-before
decreases-before l = 3 * depth l.expression.now

abbrev pub decreases-before_either : goal.decreases-before_either
decreases-before_either l = 3 * max (depth l.a.now) (depth l.b.now) + 2

abbrev pub decreases-before_both : goal.decreases-before_both
decreases-before_both l = 3 * max (depth l.a.now) (depth l.b.now) + 1
