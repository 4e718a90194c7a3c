use Rattle.std.proofs.Common.{◌≡◌, ◌<◌, ℕ, if◌then◌else◌, map, false, slice_index_or}
use Rattle.diagram_declarations.specs.Decls.{is_input}
use Rattle.invariant_sets.specs.Never.{claims}
use Rattle.scan_signals.specs.Three.{three_known}
use Rattle.scan_signals.specs.declared.tri.Tri.TheVariants.{Unsure}
use Rattle.invariant_sets.proofs.first_claims.begin_variables.Given as goal

abbrev pub invariant-loop-var : goal.invariant-loop-var
invariant-loop-var l = (var : ℕ) → var < l.var
    → claims l.variables var ≡ (if slice_index_or (map is_input l.vars) var false then Unsure else three_known (slice_index_or l.state.held.values var false))
