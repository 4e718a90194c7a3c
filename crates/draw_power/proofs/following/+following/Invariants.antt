use Rattle.std.proofs.Common.{◌+◌, ◌*◌}
use Rattle.draw_power.specs.Parts.{depth, depth_of}
use Rattle.draw_power.proofs.following.+following.Given as goal

abbrev pub decreases-follow : goal.decreases-follow
decreases-follow l = 3 * depth l.part.expression.now

abbrev pub decreases-series : goal.decreases-series
decreases-series l = 3 * depth_of l.pair + 1

abbrev pub decreases-beside : goal.decreases-beside
decreases-beside l = 3 * depth_of l.pair + 1

abbrev pub decreases-crossed : goal.decreases-crossed
decreases-crossed l = 3 * depth_of l.pair + 2
