-- What is assumed of the inputs where cases are made: states count in which it is true.
use Rattle.std.specs.Prelude.{◌≡◌, ℕ, Bool, true, false, List, [], Option, None, map, option_map, slice_index_or}
use Rattle.st_expression.specs.declared.expression.Expression.{Expression}
use Rattle.assume_truth.specs.Truth.{assumed_truth, is_allowed}
use Rattle.scan_signals.specs.Three.{three}
use Rattle.scan_signals.specs.declared.tri.Tri.{Tri}
use Rattle.scan_signals.specs.declared.tri.Tri.TheVariants.{Off}
use Rattle.scan_cycle.specs.Rung.{Held}
use Rattle.scan_symbolic.specs.KnownScan.{Known}
use Rattle.invariant_cases.specs.declared.assumption.Assumption.{Assumption}
use Rattle.invariant_cases.specs.declared.outcome.Outcome.{Outcome}

-- An expression, where there is one. An operand of it is an input, by its place among the variables of the inputs.
pub record Assumed : Type 0 where
  pub inputs : List ℕ
  pub expression : Option Expression

abbrev pub nothing : Assumed
nothing = record { inputs = []; expression = None }

abbrev pub assumed_of : Assumption → Assumed
assumed_of a = record { inputs = a.inputs.now; expression = option_map (λ e. e.now) a.expression }

-- the values of the inputs in a state, place by place
abbrev pub stored_inputs : List ℕ → List Bool → List Bool
stored_inputs inputs values = map (λ var. slice_index_or values var false) inputs

-- what is known of an input; past the last one there is none, and OFF
abbrev pub known_input : List ℕ → List Tri → ℕ → Tri
known_input inputs values place = slice_index_or (map (λ var. slice_index_or values var Off) inputs) place Off

-- It is true in a state.
abbrev pub IsTrueIn : Assumed → Held → Type 0
IsTrueIn a h = is_allowed a.expression (stored_inputs a.inputs h.values) ≡ true

-- whether it is, as far as that is known
abbrev pub truth_told : Assumed → Known Tri Outcome → Tri
truth_told a k = assumed_truth three (known_input a.inputs k.values) a.expression
