use Rattle.std.proofs.Common.{◌≡◌, ◌<◌, ℕ, length, get_or, slice_get}
use Rattle.diagram_declarations.specs.Decls.{is_input_at}
use Rattle.diff_beside.proofs.fitting.are_vars_in.Given as goal

abbrev pub invariant-loop-var : goal.invariant-loop-var
invariant-loop-var l =
    (v : ℕ) → v < l.var
    → (get_or l.numbers v 0 < length l.there) × (is_input_at (slice_get l.there (get_or l.numbers v 0)) ≡ is_input_at (slice_get l.vars v))
