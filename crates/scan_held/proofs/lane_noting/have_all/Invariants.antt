use Rattle.std.proofs.Common.{◌<◌, ℕ, None, get_or, IsSome}
use Rattle.scan_held.proofs.lane_noting.have_all.Given as goal

abbrev pub invariant-loop-lane : goal.invariant-loop-lane
invariant-loop-lane l = (i : ℕ) → i < l.lane → IsSome (get_or l.firsts i None)
