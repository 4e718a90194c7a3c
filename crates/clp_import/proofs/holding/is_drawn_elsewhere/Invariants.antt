use Rattle.std.proofs.Common.{◌≡◌, ◌<◌, ℕ, Some}
use Rattle.std.specs.Prelude.{slice_get}
use Rattle.diagram_program.specs.declared.geometry.TheConstants.{PLACES}
use Rattle.clp_project.specs.declared.order.Placed.{Placed}
use Rattle.clp_import.specs.Refusals.{IsDrawn}
use Rattle.clp_import.proofs.holding.is_drawn_elsewhere.Given as goal

abbrev pub invariant-loop-other : goal.invariant-loop-other
invariant-loop-other l =
    (k : ℕ) → k < l.other → (x : Placed) → slice_get l.rungs k ≡ Some x → (i : ℕ) → i < PLACES → (k ≡ l.rung → ¬ (i ≡ l.place))
    → IsDrawn l.reading l.block x.rung.elements i → ⊥
