use Rattle.std.proofs.Common.{◌≡◌, ◌<◌, ℕ, Bool, false, slice_index_or}
use Rattle.invariant_sets.specs.Never.{claims}
use Rattle.scan_signals.specs.Three.{three_known}
use Rattle.invariant_runs.proofs.so.are_variables_so.Given as goal

abbrev pub invariant-loop-var : goal.invariant-loop-var
invariant-loop-var l = (v : ℕ) → v < l.var → (value : Bool) → claims l.set.variables v ≡ three_known value → slice_index_or l.state.held.values v false ≡ value
