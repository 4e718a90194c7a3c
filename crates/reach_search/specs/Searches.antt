-- What a search is made with, and what it found.
use Rattle.std.specs.Prelude.{◌≡◌, ◌<◌, ◌≤◌, ℕ, Bool, true, false, ◌==◌, if◌then◌else◌, List, [], ◌∷◌, length, slice_index_or, Option, None, Some}
use Rattle.std.specs.List.{list_any}
use Rattle.diagram_program.specs.Program.{Drawing}
use Rattle.scan_signals.specs.Relations.{Both}
use Rattle.scan_cycle.specs.Standing.{Fits}
use Rattle.scan_partial.specs.Sizes.{HasSizes, IsSpareFor}
use Rattle.invariant_cases.specs.Allowing.{Allows}
use Rattle.scan_cycle.specs.Programs.{diagram_of}
use Rattle.scan_cycle.specs.Runs.{OneScan, after_each}
use Rattle.scan_signals.specs.Three.{three_known}
use Rattle.scan_signals.specs.declared.tri.Tri.{Tri}
use Rattle.scan_signals.specs.declared.tri.Tri.TheVariants.{Unsure}
use Rattle.reach_runs.specs.Asking.{Gives, IsAsked, NeverOn, RunQuestion, SwitchesOn, is_on_after}
use Rattle.reach_search.specs.Sets.{IsSetFor}
use Rattle.reach_search.specs.Visits.{IsIn}
use Rattle.reach_search.specs.declared.search.Search.{Search}
use Rattle.reach_search.specs.declared.levels.Ending.{Ending}
use Rattle.reach_search.specs.declared.levels.Ending.TheVariants as ending
use Rattle.reach_search.specs.declared.seeking.Verdict.{Verdict}
use Rattle.reach_search.specs.declared.seeking.Verdict.TheVariants.{Run, Never, Open}
use Rattle.reach_search.specs.declared.state_set.StateSet.{StateSet}
use Rattle.reach_search.specs.declared.telling.Teller.{Teller}
use Rattle.reach_search.specs.declared.visiting.Visit.{Visit}
use Rattle.reach_search.specs.declared.visiting.Visit.TheVariants as visit
use Rattle.reach_search.specs.declared.ways.Ways.{Ways}

-- The buffers are as long as the program needs.
pub record IsTellerOf (p : Drawing) (t : Teller) : Type 0 where
  pub before : HasSizes p t.before
  pub after : HasSizes p t.after
  pub state : Fits p t.state

pub record AreWaysOf (entries instances : ℕ) (w : Ways) : Type 0 where
  pub inputs : w.inputs.width ≡ entries
  pub over : w.over.width ≡ instances

pub record IsSearchOf (p : Drawing) (s : Search) : Type 0 where
  pub before : HasSizes p s.before
  pub after : HasSizes p s.after
  pub room : IsSpareFor p s.room
  pub set : IsSetFor p s.set
  pub ways : AreWaysOf (length s.inputs.items) (length s.over.items) s.ways
  pub teller : IsTellerOf p s.teller

-- What a search found of a question: a run that switches the target on, that no run does, or nothing.
abbrev pub IsVerdict : RunQuestion → Verdict → Type 0
IsVerdict q (Run run) = SwitchesOn q run.items
IsVerdict q Never = NeverOn q
IsVerdict q Open = Unit {0}

abbrev pub IsEnding : RunQuestion → Ending → List OneScan → Type 0
IsEnding q ending.Found run = SwitchesOn q run
IsEnding q ending.Never run = NeverOn q
IsEnding q other run = Unit {0}

-- No further scans are to be made.
abbrev pub is_end : Visit → Bool
is_end visit.Unclear = true
is_end visit.Full = true
is_end visit.Found = true
is_end other = false

-- How a search ends whose last visit was so, if it does.
abbrev pub end_of : Visit → Option Ending
end_of visit.Found = Some ending.Found
end_of visit.Unclear = Some ending.Unclear
end_of visit.Full = Some ending.Open
end_of other = None

-- What is known of an input: it is open where it is listed, and otherwise has its stored value.
abbrev pub input_value : RunQuestion → ℕ → Tri
input_value q var = if list_any (λ v. v == var) q.listed then Unsure else three_known (slice_index_or q.state.held.values var false)

-- What is known of the inputs in every scan that is asked about.
abbrev pub AreAsked : RunQuestion → List Tri → Type 0
AreAsked q inputs = (xs : List Bool) → Gives q xs → Both Allows inputs xs

-- The moment of the last of some scans, or the one from which on they are.
abbrev pub last_moment : ℕ → List OneScan → ℕ
last_moment from [] = from
last_moment from (scan ∷ more) = last_moment scan.moment more

-- A run of at most so many scans leaves the target OFF, and a state that may be one of the set.
abbrev pub IsReachedIn : RunQuestion → StateSet → ℕ → Type 0
IsReachedIn q set most = (scans : List OneScan) → IsAsked q scans → 0 < length scans → length scans ≤ most
    → (is_on_after q scans ≡ false) × IsIn q.timing (diagram_of q.program) set (last_moment q.from scans) (after_each (diagram_of q.program) scans q.state.held)
