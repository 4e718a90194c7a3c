use Rattle.std.proofs.Common.{◌≡◌, ◌<◌, ℕ}
use Rattle.clp_import.specs.Refusals.{IsDrawn}
use Rattle.clp_import.proofs.holding.is_drawn_beside.Given as goal

abbrev pub invariant-loop-place : goal.invariant-loop-place
invariant-loop-place l = (i : ℕ) → i < l.place → ¬ (i ≡ l.except) → IsDrawn l.reading l.block l.elements i → ⊥
