use Rattle.std.proofs.Common.{◌≡◌, ℕ, ◌<◌, get_or}
use Rattle.scan_signals.specs.declared.tri.Tri.TheVariants.{Off}
use Rattle.scan_held.proofs.again.same_memories.Given as goal

abbrev pub invariant-loop-number : goal.invariant-loop-number
invariant-loop-number l = (k : ℕ) → k < l.number → get_or l.before.memories k Off ≡ get_or l.after.memories k Off
