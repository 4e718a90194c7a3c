use Rattle.std.proofs.Common.{◌≡◌, ℕ, ◌<◌, false, get_or}
use Rattle.scan_held.proofs.later.same_values.Given as goal

abbrev pub invariant-loop-var : goal.invariant-loop-var
invariant-loop-var l = (k : ℕ) → k < l.var → get_or l.before.held.values k false ≡ get_or l.after.held.values k false
