-- Whether any inputs of two programs, the same where inputs belong together, make true what is assumed of both.
use Rattle.std.specs.Prelude.{◌≡◌, ◌<◌, ◌+◌, ◌==◌, ◌&&◌, ℕ, Bool, true, false, List, Some, None, find, length}
use Rattle.std.specs.List.{All}
use Rattle.diagram_program.specs.Program.{Drawing}
use Rattle.assume_truth.specs.Truth.{is_allowed}
use Rattle.invariant_cases.specs.Assuming.{Assumed, stored_inputs}
use Rattle.diff_matching.specs.declared.matching.Pair.{Pair}
use Rattle.diff_matching.specs.Matching.{AreSame, Matching}

-- Some values of the variables of two programs are the same where inputs belong together, and in both what is assumed is true of the inputs.
abbrev pub MayBeTrueInBoth : Matching → Assumed → Assumed → Type 0
MayBeTrueInBoth m a b = (old : List Bool) × (new : List Bool) × AreSame false m.inputs old new
    × (is_allowed a.expression (stored_inputs a.inputs old) ≡ true) × (is_allowed b.expression (stored_inputs b.inputs new) ≡ true)

-- No such values make it true in both.
abbrev pub CannotBeTrueInBoth : Matching → Assumed → Assumed → Type 0
CannotBeTrueInBoth m a b = (old : List Bool) (new : List Bool) → AreSame false m.inputs old new
    → (is_allowed a.expression (stored_inputs a.inputs old) && is_allowed b.expression (stored_inputs b.inputs new)) ≡ false

-- The inputs are variables of the program.
abbrev pub AreVariablesOf : Drawing → List ℕ → Type 0
AreVariablesOf p inputs = All (λ var. var < length p.decls.vars) inputs

-- Private: the number that a variable of NEW has among the variables of both: that of the input of OLD with which it is in a pair, or else one
-- behind all of OLD, of which there are so many.
abbrev pub joint_number : List Pair → ℕ → ℕ → ℕ
joint_number pairs behind var = elim (find (λ x. x.new == var) pairs) [ Some x ↦ x.old | None ↦ behind + var ]
