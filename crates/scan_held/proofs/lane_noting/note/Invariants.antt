use Rattle.std.proofs.Common.{◌≡◌, ◌<◌, ◌≤◌, ℕ, None, get_or}
use Rattle.scan_held.specs.Lanes.{bit}
use Rattle.scan_held.specs.Noting.{noted}
use Rattle.scan_held.proofs.lane_noting.note.Given as goal

abbrev pub invariant-loop-lane : goal.invariant-loop-lane
invariant-loop-lane l = record {
  done : (i : ℕ) → i < l.lane → get_or l.firsts i None ≡ noted (bit l.value i) l.scan (get_or l.fn.firsts i None);
  ahead : (i : ℕ) → l.lane ≤ i → get_or l.firsts i None ≡ get_or l.fn.firsts i None;
}
