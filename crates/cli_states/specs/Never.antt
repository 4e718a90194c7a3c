-- What never changes, as a list.
use Rattle.std.specs.Prelude.{◌≡◌, ◌⊎◌, ◌==◌, ℕ, Bool, List, true, false, All, Option, length, map, string_bytes}
use Rattle.st_expression.specs.declared.expression.Expression.{Expression}
use Rattle.diagram_program.specs.Program.{Drawing}
use Rattle.scan_cycle.specs.Programs.{diagram_of}
use Rattle.scan_cycle.specs.Standing.{Standing}
use Rattle.text_lists.specs.SteadyText.{steady_rows, steady_text}
use Rattle.assume_reading.specs.Several.{AreAssumptions}
use Rattle.invariant_sets.specs.Invariants.{IsGivenAllowed, IsStaying, IsStayingAssuming, input_numbers}
use Rattle.invariant_cases.specs.Assuming.{Assumed}
use Rattle.scan_cycle.specs.Runs.{OneScan, after_each}
use Rattle.invariant_sets.specs.Never.{IsSo}
use Rattle.text_lists.specs.PairText.{pairs_text}
use Rattle.invariant_cases.specs.Allowing.{AreApart}
use Rattle.invariant_sets.specs.Pairs.{HasToldApart}
use Rattle.invariant_sets.specs.declared.staying.Staying.{Staying}
use Rattle.io_text.specs.Log.{PutsAll, PutsPrefix, WriteLog}
use Rattle.cli_inputs.specs.declared.fault.ToolFault.{ToolFault}
use Rattle.cli_inputs.specs.declared.fault.ToolFault.TheVariants as fault
use Rattle.cli_arguments.specs.declared.request.Excluded.{Excluded}
use Rattle.cli_arguments.specs.declared.request.Excluded.TheVariants as excluded
use Rattle.cli_arguments.specs.declared.request.NeverRequest.{NeverRequest}
use Rattle.cli_inputs.specs.Setting.{Given, HasSettingFault, IsSet}
use Rattle.cli_inputs.specs.Reports.{IsReported, Logs}
use Rattle.cli_assumed.specs.Assumed.{HasAssumptionFault, HasTruthFault, MayBeTrue}
use Rattle.cli_questions.specs.declared.counting.ListCounts.TheVariants as counts
use Rattle.cli_questions.specs.Ending.{counts_line, held_line, unless_quiet}

-- What is written for what is shut out: the names that stay OFF where ON is, with the places where they are drawn, those that stay ON where OFF
-- is, or the pairs of names of which not both are ON.
abbrev pub never_text : Excluded → Drawing → Staying → List ℕ
never_text excluded.On p staying = steady_text p staying.steady false
never_text excluded.Off p staying = steady_text p staying.steady true
never_text excluded.BothOn p staying = pairs_text p staying.apart

-- how many rows that are
abbrev pub never_count : Excluded → Drawing → Staying → ℕ
never_count excluded.On p staying = length (steady_rows p staying.steady false)
never_count excluded.Off p staying = length (steady_rows p staying.steady true)
never_count excluded.BothOn p staying = length staying.apart

-- What stays so from the state on is written, whole or as far as `Written` says. It is so in the state, and after any scans from there, with any
-- inputs and at any moments. None of it is an input, no pair has one that never changes, and all that one scan settles is among it.
pub record ListsNever (shut_out : Excluded) (g : Given) (Written : List ℕ → Type 0) : Type 0 where
  pub program : Drawing
  pub state : Standing
  pub set : IsSet g program state
  pub staying : Staying
  pub stays : IsStaying program state staying
  pub told : HasToldApart program state staying.steady staying.apart
  pub so : (scans : List OneScan)
      → IsSo staying.steady (after_each (diagram_of program) scans state.held) × AreApart staying.apart (after_each (diagram_of program) scans state.held)
  pub rows : Written (never_text shut_out program staying)

-- A fault of the texts, or being out of memory.
abbrev pub HasNeverFault : Given → ToolFault → Type 0
HasNeverFault g f = HasSettingFault g f ⊎ (f ≡ fault.Memory)

-- The rows were listed, and then their number is written: whole, or as far as `Counted` says.
pub record CountsNever (shut_out : Excluded) (g : Given) (r : NeverRequest) (out out' : WriteLog) (Counted : List ℕ → Type 0) : Type 0 where
  pub list : ListsNever shut_out g (PutsAll out out')
  pub count : Counted (unless_quiet r.quiet (held_line (never_count shut_out list.program list.staying)))

-- Status 1: `out` failed at the rows, or `err` at their count.
abbrev pub BreaksNever : Excluded → Given → NeverRequest → Logs → Logs → Type 0
BreaksNever shut_out g r old new =
    (ListsNever shut_out g (PutsPrefix old.out new.out) × IsReported g old.err new.err fault.Write)
    ⊎ CountsNever shut_out g r old.out new.out (PutsPrefix old.err new.err)

-- ---- where something is assumed of the inputs

-- the expressions
abbrev pub texts_of : NeverRequest → List (List ℕ)
texts_of r = map string_bytes r.assumed.items

-- what is assumed of the inputs of a program
abbrev pub of_inputs : Drawing → Option Expression → Assumed
of_inputs p assumed = record { inputs = input_numbers p; expression = assumed }

-- What stays so from the state on in scans in which what is assumed is true is written, whole or as far as `Written` says. It is so in the state,
-- and after any scans from there that give each input a value with which that is true, at any moments.
pub record ListsNeverAssuming (texts : List (List ℕ)) (shut_out : Excluded) (g : Given) (Written : List ℕ → Type 0) : Type 0 where
  pub program : Drawing
  pub state : Standing
  pub set : IsSet g program state
  pub assumed : Option Expression
  pub read : AreAssumptions program.decls texts assumed
  pub may : MayBeTrue assumed
  pub staying : Staying
  pub stays : IsStayingAssuming program (of_inputs program assumed) state staying
  pub told : HasToldApart program state staying.steady staying.apart
  pub so : (scans : List OneScan) → All (IsGivenAllowed (of_inputs program assumed)) scans
      → IsSo staying.steady (after_each (diagram_of program) scans state.held) × AreApart staying.apart (after_each (diagram_of program) scans state.held)
  pub rows : Written (never_text shut_out program staying)

-- A fault of the texts; of the expressions, or that no inputs make them true; or being out of memory.
abbrev pub HasAssumedNeverFault : List (List ℕ) → Given → ToolFault → Type 0
HasAssumedNeverFault texts g f = HasNeverFault g f
    ⊎ ((program : Drawing) × (state : Standing) × IsSet g program state × (HasAssumptionFault program.decls texts f
    ⊎ ((assumed : Option Expression) × AreAssumptions program.decls texts assumed × HasTruthFault assumed f)))

-- The rows were listed, and then their number is written, with that of the expressions: whole, or as far as `Counted` says.
pub record CountsNeverAssuming (texts : List (List ℕ)) (shut_out : Excluded) (g : Given) (r : NeverRequest) (out out' : WriteLog) (Counted : List ℕ → Type 0) : Type 0 where
  pub list : ListsNeverAssuming texts shut_out g (PutsAll out out')
  pub count : Counted (unless_quiet r.quiet (counts_line (counts.AssumedRows (never_count shut_out list.program list.staying) (length texts))))

-- Status 1: `out` failed at the rows, or `err` at their count.
abbrev pub BreaksNeverAssuming : List (List ℕ) → Excluded → Given → NeverRequest → Logs → Logs → Type 0
BreaksNeverAssuming texts shut_out g r old new =
    (ListsNeverAssuming texts shut_out g (PutsPrefix old.out new.out) × IsReported g old.err new.err fault.Write)
    ⊎ CountsNeverAssuming texts shut_out g r old.out new.out (PutsPrefix old.err new.err)

-- ---- how the requests end

abbrev pub CountsNeverBy : (nothing : Bool) → Given → NeverRequest → WriteLog → WriteLog → (List ℕ → Type 0) → Type 0
CountsNeverBy true g r = CountsNever r.excluded g r
CountsNeverBy false g r = CountsNeverAssuming (texts_of r) r.excluded g r

abbrev pub BreaksNeverBy : (nothing : Bool) → Given → NeverRequest → Logs → Logs → Type 0
BreaksNeverBy true g r = BreaksNever r.excluded g r
BreaksNeverBy false g r = BreaksNeverAssuming (texts_of r) r.excluded g r

abbrev pub HasNeverFaultBy : (nothing : Bool) → Given → NeverRequest → ToolFault → Type 0
HasNeverFaultBy true g r = HasNeverFault g
HasNeverFaultBy false g r = HasAssumedNeverFault (texts_of r) g

-- The request assumes nothing.
abbrev pub assumes_nothing : NeverRequest → Bool
assumes_nothing r = length r.assumed.items == 0

abbrev pub CountsAllNever : Given → NeverRequest → WriteLog → WriteLog → (List ℕ → Type 0) → Type 0
CountsAllNever g r = CountsNeverBy (assumes_nothing r) g r

abbrev pub BreaksAllNever : Given → NeverRequest → Logs → Logs → Type 0
BreaksAllNever g r = BreaksNeverBy (assumes_nothing r) g r

abbrev pub HasAllNeverFault : Given → NeverRequest → ToolFault → Type 0
HasAllNeverFault g r = HasNeverFaultBy (assumes_nothing r) g r
