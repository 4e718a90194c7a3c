-- Scans that lead from states to states of a set, with the target OFF.
use Rattle.std.specs.Prelude.{◌≡◌, ◌<◌, ◌≤◌, ℕ, ◌+◌, Bool, true, false, fold, if◌then◌else◌, List, slice_index_or}
use Rattle.std.specs.List.{list_all}
use Rattle.diagram_declarations.specs.declared.decls.Symbol.{Symbol}
use Rattle.diagram_declarations.specs.declared.decls.Symbol.TheVariants as symbol
use Rattle.scan_cycle.specs.Cells.{Diagram}
use Rattle.scan_cycle.specs.Programs.{diagram_of}
use Rattle.scan_cycle.specs.Rung.{Held}
use Rattle.scan_cycle.specs.Scan.{after_scan}
use Rattle.scan_signals.specs.Relations.{Both}
use Rattle.scan_signals.specs.Three.{three_meet, three_inverse}
use Rattle.scan_signals.specs.declared.tri.Tri.{Tri}
use Rattle.scan_signals.specs.declared.tri.Tri.TheVariants.{Off, On}
use Rattle.scan_symbolic.specs.KnownScan.{Known, kept_at}
use Rattle.assume_truth.specs.Truth.{is_allowed}
use Rattle.invariant_cases.specs.Allowing.{Allows}
use Rattle.reach_runs.specs.Asking.{Gives, RunQuestion, is_so}
use Rattle.reach_runs.specs.declared.target.Literal.{Literal}
use Rattle.reach_runs.specs.declared.timing.Timing.{Timing}
use Rattle.reach_runs.specs.declared.timing.Timing.TheVariants.{AnyMoments, Every}
use Rattle.reach_states.specs.Allowing.{AllowsState}
use Rattle.reach_states.specs.Untimed.{q_untimed, untimed}
use Rattle.reach_states.specs.declared.untimed.Untimed.{Untimed}
use Rattle.reach_search.specs.Sets.{count_of, state_at}
use Rattle.reach_search.specs.declared.state_set.StateSet.{StateSet}

-- What is known of the value of a variable, or of the output of an instance; of whether a literal is so; and of whether each of them is.
abbrev pub known_of : Known Tri Untimed → Symbol → Tri
known_of k (symbol.Var var) = slice_index_or k.values var Off
known_of k (symbol.Instance inst) = q_untimed (kept_at untimed k inst)

abbrev pub told : Known Tri Untimed → Literal → Tri
told k literal = if literal.value then known_of k literal.symbol else three_inverse (known_of k literal.symbol)

abbrev pub told_all : Known Tri Untimed → List Literal → Tri
told_all k literals = fold (λ all literal. three_meet all (told k literal)) On literals

-- The state may be one of the set, where it is left by a scan at this moment.
abbrev pub IsIn : Timing → Diagram → StateSet → ℕ → Held → Type 0
IsIn timing d set now h = (number : ℕ) × (number < count_of set) × AllowsState timing d now (state_at set number) h

-- A scan at this moment left the target OFF, and a state that may be one of the set.
pub record Arrives (q : RunQuestion) (set : StateSet) (now : ℕ) (h : Held) : Type 0 where
  pub off : list_all (is_so h) q.target ≡ false
  pub there : IsIn q.timing (diagram_of q.program) set now h

-- Each scan arrives that is made of one of these states, with inputs that are known in part and of which what is assumed is true.
abbrev pub Leads : RunQuestion → StateSet → (ℕ → Held → Type 0) → List Tri → Type 0
Leads q set allows inputs = (now : ℕ) (h : Held) → allows now h → (xs : List Bool) → Both Allows inputs xs → is_allowed q.assumed xs ≡ true
    → Arrives q set now (after_scan (diagram_of q.program) now xs h)

-- The moment of the next scan, in a rhythm after so much time.
abbrev pub Passes : Timing → ℕ → ℕ → ℕ → Type 0
Passes AnyMoments time now later = now ≤ later
Passes (Every every) time now later = later ≡ now + time

-- Each scan arrives that is made next of a state that may be this one.
abbrev pub LeadsOn : RunQuestion → StateSet → Known Tri Untimed → ℕ → List Tri → Type 0
LeadsOn q set k time inputs = (now later : ℕ) → Passes q.timing time now later → (h : Held) → AllowsState q.timing (diagram_of q.program) now k h
    → (xs : List Bool) → Both Allows inputs xs → is_allowed q.assumed xs ≡ true → Arrives q set later (after_scan (diagram_of q.program) later xs h)

abbrev pub time_of : Timing → ℕ
time_of AnyMoments = 0
time_of (Every every) = every

-- Each scan arrives that is asked about and made next of a state that may be the one of the number.
abbrev pub IsVisited : RunQuestion → StateSet → ℕ → Type 0
IsVisited q set number = (now later : ℕ) → Passes q.timing (time_of q.timing) now later → (h : Held)
    → AllowsState q.timing (diagram_of q.program) now (state_at set number) h → (xs : List Bool) → Gives q xs
    → Arrives q set later (after_scan (diagram_of q.program) later xs h)

-- The second set has the states of the first, by the same numbers, and maybe more.
pub record Grows (old new : StateSet) : Type 0 where
  pub more : count_of old ≤ count_of new
  pub same : (number : ℕ) → number < count_of old → state_at new number ≡ state_at old number
