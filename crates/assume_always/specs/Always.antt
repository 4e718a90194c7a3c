-- What is assumed and is always true: it leaves nothing out, so most likely it isn't what was meant.
use Rattle.std.specs.Prelude.{◌≡◌, ◌⊎◌, ◌++◌, ◌∷◌, ◌+◌, ℕ, Bool, true, false, List, [], Some, codes, decimal}
use Rattle.st_expression.specs.declared.expression.Expression.{Expression}
use Rattle.diagram_declarations.specs.Decls.{Declared}
use Rattle.assume_reading.specs.Reading.{IsAssumption, Refuses}
use Rattle.assume_reading.specs.declared.fault.AssumptionFault.{AssumptionFault}
use Rattle.assume_reading.specs.declared.fault.AssumptionFault.TheVariants as assumption
use Rattle.assume_truth.specs.Truth.{is_allowed}

-- All values of the inputs make it true.
abbrev pub IsAlwaysTrue : Expression → Type 0
IsAlwaysTrue e = (inputs : List Bool) → is_allowed (Some e) inputs ≡ true

-- Some make it false.
abbrev pub IsSometimesFalse : Expression → Type 0
IsSometimesFalse e = (inputs : List Bool) × (is_allowed (Some e) inputs ≡ false)

-- The text is refused for what it says.
abbrev pub IsOfText : AssumptionFault → Type 0
IsOfText assumption.Memory = ⊥
IsOfText other = Unit {0}

-- The number of a text is told just where what it says is always true. A text that is refused says nothing.
abbrev pub IsTold : Declared → (number : ℕ) → (text : List ℕ) → (more numbers : List ℕ) → Type 0
IsTold decls number text more numbers =
    ((e : Expression) × IsAssumption decls text e × IsAlwaysTrue e × (numbers ≡ number ∷ more))
    ⊎ (((e : Expression) × IsAssumption decls text e × IsSometimesFalse e × (numbers ≡ more))
    ⊎ ((why : AssumptionFault) × Refuses decls text why × IsOfText why × (numbers ≡ more)))

-- The numbers of the texts, counted from this one on, that are always true.
abbrev pub AreAlwaysTrue : Declared → (number : ℕ) → (texts : List (List ℕ)) → (numbers : List ℕ) → Type 0
AreAlwaysTrue decls number [] numbers = numbers ≡ []
AreAlwaysTrue decls number (text ∷ texts) numbers = (more : List ℕ) × AreAlwaysTrue decls (number + 1) texts more × IsTold decls number text more numbers

-- `assume N is always true`
abbrev pub always_line : ℕ → List ℕ
always_line number = codes "assume " ++ (decimal number ++ codes " is always true\n")
