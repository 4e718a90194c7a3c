use Rattle.std.proofs.Common.{◌≡◌, ℕ, ◌<◌, get_or}
use Rattle.scan_signals.specs.declared.tri.Tri.TheVariants.{Off}
use Rattle.scan_held.proofs.again.same_values.Given as goal

abbrev pub invariant-loop-var : goal.invariant-loop-var
invariant-loop-var l = (k : ℕ) → k < l.var → get_or l.before.values k Off ≡ get_or l.after.values k Off
