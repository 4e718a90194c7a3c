-- What a request for a run asks, and why it is refused.
use Rattle.std.specs.Prelude.{◌≡◌, ◌⊎◌, ℕ, Bool, true, false, not, nat_lt, List, [], ◌∷◌, Option, None, find, map, slice_index_or, string_bytes, unwrap_or}
use Rattle.std.specs.List.{list_all}
use Rattle.st_expression.specs.declared.expression.Expression.{Expression}
use Rattle.diagram_declarations.specs.declared.decls.Symbol.{Symbol}
use Rattle.diagram_declarations.specs.declared.decls.Symbol.TheVariants as symbol
use Rattle.diagram_declarations.specs.Decls.{Declared, is_input}
use Rattle.diagram_program.specs.Program.{Drawing, has_coil}
use Rattle.scan_cycle.specs.Standing.{Standing}
use Rattle.assume_reading.specs.Several.{AreAssumptions}
use Rattle.causes_query.specs.Refusal.{has_repetition}
use Rattle.causes_query.specs.declared.fault.CauseFault.{CauseFault}
use Rattle.causes_query.specs.declared.fault.CauseFault.TheVariants.{MomentBack, NotACoil, NotAnInput, RepeatedInput}
use Rattle.reach_runs.specs.Asking.{RunQuestion}
use Rattle.reach_runs.specs.declared.target.Literal.{Literal}
use Rattle.reach_runs.specs.declared.timing.Timing.{Timing}
use Rattle.reach_runs.specs.declared.timing.Timing.TheVariants as timing
use Rattle.cli_arguments.specs.declared.request.Pace.{Pace}
use Rattle.cli_arguments.specs.declared.request.Pace.TheVariants as pace
use Rattle.cli_arguments.specs.declared.request.ReachRequest.{ReachRequest}
use Rattle.cli_assumed.specs.Assumed.{HasAssumptionFault, HasTruthFault, MayBeTrue}
use Rattle.cli_inputs.specs.Reports.{HasCauseFault}
use Rattle.cli_inputs.specs.Setting.{Given, HasSettingFault, IsSet}
use Rattle.cli_inputs.specs.Variables.{AreListed}
use Rattle.cli_inputs.specs.declared.fault.ToolFault.{ToolFault}
use Rattle.cli_inputs.specs.declared.fault.ToolFault.TheVariants as fault
use Rattle.cli_reach.specs.Naming.{HasNameFault, IsTarget}
use Rattle.cli_reach.specs.declared.asking.Asked.{Asked}

abbrev pub is_empty : {A : Type 0} → List A → Bool
is_empty [] = true
is_empty (x ∷ xs) = false

abbrev pub timing_of : Pace → Timing
timing_of (pace.AnyMoments gap) = timing.AnyMoments
timing_of (pace.Every every scans) = timing.Every every

-- how many scans a run has at most, where that is said
abbrev pub most_of : Pace → Option ℕ
most_of (pace.AnyMoments gap) = None
most_of (pace.Every every scans) = scans

abbrev pub question_of : Asked → RunQuestion
question_of a = record {
  program = a.program;
  state = a.state;
  from = a.from;
  timing = a.timing;
  listed = a.inputs.items;
  target = a.target.items;
  assumed = a.assumed;
}

-- The program and the state are those of the texts. The scans are from the moment on that is given, or else from the stored one. The inputs
-- change that are named, or all where none is. What each expression says is assumed of the inputs of each scan,
-- and may be true.
pub record IsAskedBy (g : Given) (r : ReachRequest) (q : RunQuestion) : Type 0 where
  pub set : IsSet g q.program q.state
  pub from : q.from ≡ unwrap_or r.moment q.state.moment
  pub timing : q.timing ≡ timing_of r.pace
  pub target : IsTarget q.program.decls r q.target
  pub listed : AreListed q.program.decls (is_empty r.inputs.items) (map string_bytes r.inputs.items) q.listed
  pub assumed : AreAssumptions q.program.decls (map string_bytes r.assumed.items) q.assumed
  pub may : MayBeTrue q.assumed

-- ---- refusals

-- A coil writes the variable; the output of an instance is written where it is drawn.
abbrev pub is_written : Drawing → Symbol → Bool
is_written p (symbol.Var var) = has_coil var p
is_written p (symbol.Instance inst) = true

-- Which rules a question breaks, of those of a list of causes.
abbrev pub is_broken : RunQuestion → CauseFault → Bool
-- the moment asked is before the stored one
is_broken q MomentBack = nat_lt q.from q.state.moment
-- no coil writes a variable that is to be ON
is_broken q NotACoil = not (list_all (λ literal. is_written q.program literal.symbol) q.target)
-- not all that are listed are inputs
is_broken q NotAnInput = not (list_all (λ var. slice_index_or (map is_input q.program.decls.vars) var false) q.listed)
-- one is listed twice
is_broken q RepeatedInput = has_repetition q.listed
is_broken q other = false

-- the first rule that the question breaks, in the order in which they are looked at
abbrev pub refusal : RunQuestion → Option CauseFault
refusal q = find (is_broken q) (MomentBack ∷ NotACoil ∷ NotAnInput ∷ RepeatedInput ∷ [])

-- Each name is of something.
pub record AreNamed (decls : Declared) (r : ReachRequest) : Type 0 where
  pub target : List Literal
  pub is : IsTarget decls r target
  pub inputs : List ℕ
  pub listed : AreListed decls (is_empty r.inputs.items) (map string_bytes r.inputs.items) inputs

-- An expression is refused, or no inputs make all of them true.
abbrev pub HasExpressionFault : Declared → ReachRequest → ToolFault → Type 0
HasExpressionFault decls r f = HasAssumptionFault decls (map string_bytes r.assumed.items) f
    ⊎ ((assumed : Option Expression) × AreAssumptions decls (map string_bytes r.assumed.items) assumed × HasTruthFault assumed f)

-- A fault of the texts, of the names, or else of the expressions, or of what is asked; or being out of memory.
abbrev pub HasReachFault : Given → ReachRequest → ToolFault → Type 0
HasReachFault g r f = HasSettingFault g f
    ⊎ ((p : Drawing) × (s : Standing) × IsSet g p s × HasNameFault p.decls r f)
    ⊎ ((p : Drawing) × (s : Standing) × IsSet g p s × AreNamed p.decls r × HasExpressionFault p.decls r f)
    ⊎ ((q : RunQuestion) × IsAskedBy g r q × HasCauseFault (refusal q) f)
    ⊎ (f ≡ fault.Memory)
