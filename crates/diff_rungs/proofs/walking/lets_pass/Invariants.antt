use Rattle.std.proofs.Common.{◌≡◌, ◌<◌, ℕ, Some, slice_get}
use Rattle.diff_rungs.specs.declared.reading.Rungs.{Rungs}
use Rattle.diff_rungs.specs.Walking.{LetsOne}
use Rattle.diff_rungs.proofs.walking.lets_pass.Given as goal

abbrev pub invariant-loop-n : goal.invariant-loop-n
invariant-loop-n l = (k : ℕ) (x : Rungs) → k < l.n → slice_get l.leaps.items k ≡ Some x → LetsOne l.side x l.place.old_rung l.place.new_rung
