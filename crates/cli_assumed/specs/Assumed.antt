-- What a request assumes of the inputs: how it is read, and what is refused of it.
use Rattle.std.specs.Prelude.{◌≡◌, ◌⊎◌, ◌+◌, ◌<◌, ◌^◌, ℕ, true, false, List, Option, None, Some, length}
use Rattle.st_expression.specs.declared.expression.Expression.{Expression}
use Rattle.diagram_declarations.specs.Decls.{Declared}
use Rattle.causes_query.specs.Causes.{Question}
use Rattle.assume_search.specs.Counted.{is_counted}
use Rattle.assume_possible.specs.Satisfiable.{IsSatisfiable, IsUnsatisfiable}
use Rattle.assume_reading.specs.Several.{AreAssumptions, IsFirstRefused}
use Rattle.assume_reading.specs.declared.fault.AssumptionFault.{AssumptionFault}
use Rattle.assume_reading.specs.declared.fault.AssumptionFault.TheVariants as assumption
use Rattle.cli_inputs.specs.declared.fault.ToolFault.{ToolFault}
use Rattle.cli_inputs.specs.declared.fault.ToolFault.TheVariants as fault
use Rattle.cli_questions.specs.Ending.{Form}

-- The first expression that is refused: a word of it names no input, or it is none.
abbrev pub assumption_fault : ℕ → AssumptionFault → ToolFault
assumption_fault number assumption.Memory = fault.Memory
assumption_fault number (assumption.NotAnInput start end) = fault.NoInput number (start + 1)
assumption_fault number other = fault.Assumed number

-- A word that is refused isn't empty.
abbrev pub IsWordAt : AssumptionFault → Type 0
IsWordAt (assumption.NotAnInput start end) = start < end
IsWordAt other = Unit {0}

abbrev pub HasAssumptionFault : Declared → List (List ℕ) → ToolFault → Type 0
HasAssumptionFault decls texts f = (number : ℕ) × (why : AssumptionFault) × IsFirstRefused decls texts number why × (f ≡ assumption_fault number why)

-- With some combination of the listed inputs it is true.
abbrev pub IsEverTrue : Option Expression → Question → Type 0
IsEverTrue assumed q = (n : ℕ) × (n < 2 ^ length q.listed) × (is_counted assumed q n ≡ true)

-- With none of them it is.
abbrev pub IsNeverTrue : Option Expression → Question → Type 0
IsNeverTrue assumed q = (n : ℕ) → n < 2 ^ length q.listed → is_counted assumed q n ≡ false

-- A form of what is assumed, by the expressions of a request.
abbrev pub Assuming : (texts : List (List ℕ)) → (Option Expression → Form) → Form
Assuming texts Is q text c = (assumed : Option Expression) × AreAssumptions q.program.decls texts assumed × IsEverTrue assumed q × Is assumed q text c

-- The question is refused, or none of its combinations counts.
abbrev pub AssumedFault : Option Expression → (Question → ToolFault → Type 0) → Question → ToolFault → Type 0
AssumedFault assumed Refused q f = Refused q f ⊎ ((f ≡ fault.NeverTrue) × IsNeverTrue assumed q)

-- Faults are looked for in the expressions first, and then in what is asked with them.
abbrev pub AfterReading : (texts : List (List ℕ)) → (Option Expression → Question → ToolFault → Type 0) → Question → ToolFault → Type 0
AfterReading texts Refused q f = HasAssumptionFault q.program.decls texts f
    ⊎ ((assumed : Option Expression) × AreAssumptions q.program.decls texts assumed × Refused assumed q f)

abbrev pub AssumingFault : (texts : List (List ℕ)) → (Question → ToolFault → Type 0) → Question → ToolFault → Type 0
AssumingFault texts Refused = AfterReading texts (λ assumed. AssumedFault assumed Refused)

-- ---- where inputs that aren't listed are open too

-- Some values of all inputs make it true; where nothing is assumed, any do.
abbrev pub MayBeTrue : Option Expression → Type 0
MayBeTrue None = Unit {0}
MayBeTrue (Some e) = IsSatisfiable e

-- None do.
abbrev pub CannotBeTrue : Option Expression → Type 0
CannotBeTrue None = ⊥
CannotBeTrue (Some e) = IsUnsatisfiable e

-- It can't be true, or memory ran out before that was known.
abbrev pub HasTruthFault : Option Expression → ToolFault → Type 0
HasTruthFault assumed f = (f ≡ fault.Memory) ⊎ ((f ≡ fault.NeverTrue) × CannotBeTrue assumed)

-- A form of what is assumed of all inputs, by the expressions of a request.
abbrev pub AssumingAnywhere : (texts : List (List ℕ)) → (Option Expression → Form) → Form
AssumingAnywhere texts Is q text c = (assumed : Option Expression) × AreAssumptions q.program.decls texts assumed × MayBeTrue assumed × Is assumed q text c

-- Faults are looked for in the expressions first, then in whether they can be true together, and then in what is asked.
abbrev pub AssumingAnywhereFault : (texts : List (List ℕ)) → (Question → ToolFault → Type 0) → Question → ToolFault → Type 0
AssumingAnywhereFault texts Refused = AfterReading texts (λ assumed q f. HasTruthFault assumed f ⊎ Refused q f)
