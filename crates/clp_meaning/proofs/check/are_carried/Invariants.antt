use Rattle.std.proofs.Common.{◌≡◌, ◌<◌, ℕ, Some}
use Rattle.std.specs.Prelude.{slice_get}
use Rattle.clp_project.specs.declared.order.Placed.{Placed}
use Rattle.clp_meaning.specs.Carried.{IsRungCarried}
use Rattle.clp_meaning.proofs.check.are_carried.Given as goal

abbrev pub invariant-loop-rung : goal.invariant-loop-rung
invariant-loop-rung l = (k : ℕ) → k < l.rung → (x : Placed) → slice_get l.rungs k ≡ Some x → IsRungCarried l.reading l.program l.rungs l.blocks k x
