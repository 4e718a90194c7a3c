-- What a request of two programs assumes of their inputs, and how that is refused.
use Rattle.std.specs.Prelude.{◌≡◌, ◌⊎◌, ◌==◌, ◌&&◌, not, Bool, true, false, Option, None, Some, length}
use Rattle.diagram_program.specs.Program.{Drawing}
use Rattle.invariant_cases.specs.Assuming.{Assumed}
use Rattle.invariant_sets.specs.Invariants.{input_numbers}
use Rattle.search_differences.specs.declared.side.Side.{Side}
use Rattle.diff_matching.specs.Matching.{Matching}
use Rattle.diff_matching.specs.Names.{IsByNames}
use Rattle.assume_both.specs.Both.{CannotBeTrueInBoth, MayBeTrueInBoth}
use Rattle.cli_inputs.specs.declared.fault.ToolFault.{ToolFault}
use Rattle.cli_inputs.specs.declared.fault.ToolFault.TheVariants as fault
use Rattle.cli_inputs.specs.Setting.{Given}
use Rattle.cli_diff.specs.Assumed.{Assumption}
use Rattle.cli_diff.specs.AssumedEnding.{Assumes, HasExpressionFaultOfTwo, IsAssumedOfTwo}
use Rattle.cli_diff.specs.declared.assuming.ReadAssumed.{ReadAssumed}

-- Nothing is, and no comments are taken.
abbrev pub assumes_nothing : Assumes → Bool
assumes_nothing w = length w.expressions == 0 && not w.takes_comments

-- what is assumed of the inputs of each program, in order of declaration
abbrev pub of_old : Drawing → Assumption → Assumed
of_old p a = record { inputs = input_numbers p; expression = a.old }

abbrev pub of_new : Drawing → Assumption → Assumed
of_new q a = record { inputs = input_numbers q; expression = a.new }

-- Some values of the inputs, the same for inputs of one name, make it true in both programs.
abbrev pub MayBeTrue : Drawing → Drawing → Assumption → Type 0
MayBeTrue p q a = (m : Matching) × IsByNames m p q × MayBeTrueInBoth m (of_old p a) (of_new q a)

-- No such values do.
abbrev pub CannotBeTrue : Drawing → Drawing → Assumption → Type 0
CannotBeTrue p q a = (m : Matching) × IsByNames m p q × CannotBeTrueInBoth m (of_old p a) (of_new q a)

-- Nothing is assumed; or this is, and may be true in both programs.
abbrev pub IsAssumedWhere : Given → Given → Assumes → Drawing → Drawing → Option Assumption → Type 0
IsAssumedWhere g h w p q None = assumes_nothing w ≡ true
IsAssumedWhere g h w p q (Some a) = (assumes_nothing w ≡ false) × IsAssumedOfTwo g h w p.decls q.decls a × MayBeTrue p q a

-- An expression is refused: of the old program, or then of the new one. Or what is assumed cannot be true in both, which is a fault of neither
-- program alone; or memory ran out.
abbrev pub HasAssumedFault : Option Side → Given → Given → Assumes → Drawing → Drawing → ToolFault → Type 0
HasAssumedFault side g h w p q f = (assumes_nothing w ≡ false)
    × (HasExpressionFaultOfTwo side g h w p.decls q.decls f
    ⊎ ((side ≡ None) × ((f ≡ fault.Memory) ⊎ ((a : Assumption) × IsAssumedOfTwo g h w p.decls q.decls a × (f ≡ fault.NeverTrue) × CannotBeTrue p q a))))

-- Private: what was read.
abbrev pub assumption_read : ReadAssumed → Assumption
assumption_read a = record { old = a.old; new = a.new; expressions = a.expressions }
