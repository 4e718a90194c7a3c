-- What is asked of the runs from a state: whether one switches something on.
use Rattle.std.specs.Prelude.{◌≡◌, ℕ, ◌+◌, ◌<◌, ◌≤◌, Bool, true, false, List, [], ◌∷◌, All, Contains, Option, if◌then◌else◌, length, not, option_map, slice_index_or, take}
use Rattle.std.specs.List.{list_all}
use Rattle.diagram_program.specs.Program.{Drawing}
use Rattle.scan_cycle.specs.Programs.{diagram_of}
use Rattle.scan_cycle.specs.Rung.{Held}
use Rattle.scan_cycle.specs.Runs.{IsRun, OneScan, after_each}
use Rattle.scan_cycle.specs.Scan.{given}
use Rattle.scan_cycle.specs.Standing.{Standing}
use Rattle.assume_truth.specs.Truth.{is_allowed}
use Rattle.causes_query.specs.Assignment.{input_variables}
use Rattle.invariant_cases.specs.Allowing.{is_on_in}
use Rattle.invariant_cases.specs.Cases.{point_of}
use Rattle.st_expression.specs.declared.expression.Expression.{Expression}
use Rattle.reach_runs.specs.declared.query.RunQuery.{RunQuery}
use Rattle.reach_runs.specs.declared.target.Literal.{Literal}
use Rattle.reach_runs.specs.declared.timing.Timing.{Timing}
use Rattle.reach_runs.specs.declared.timing.Timing.TheVariants.{AnyMoments, Every}

-- Whether the variable, or the output of the instance, has this value in a state.
abbrev pub is_so : Held → Literal → Bool
is_so h literal = if literal.value then is_on_in (point_of literal.symbol) h else not (is_on_in (point_of literal.symbol) h)

-- The target is ON where each of the literals is so. The scans begin at a moment, in a state; the listed inputs change. What is assumed, if
-- anything is, is true of the inputs of each scan.
pub record RunQuestion : Type 0 where
  pub program : Drawing
  pub state : Standing
  pub from : ℕ
  pub timing : Timing
  pub listed : List ℕ
  pub target : List Literal
  pub assumed : Option Expression

abbrev pub question_of : RunQuery → RunQuestion
question_of q = record {
  program = q.program.now;
  state = q.state.now;
  from = q.from;
  timing = q.timing;
  listed = q.listed.now;
  target = q.target.now;
  assumed = option_map (λ e. e.now) q.assumed;
}

-- The first scan is at this moment, and each other one comes this time after the one before it.
abbrev pub AreEvery : ℕ → ℕ → List OneScan → Type 0
AreEvery every from [] = Unit {0}
AreEvery every from (scan ∷ more) = (scan.moment ≡ from) × AreEvery every (from + every) more

abbrev pub AreTimed : Timing → ℕ → List OneScan → Type 0
AreTimed AnyMoments from scans = IsRun from scans
AreTimed (Every every) from scans = AreEvery every from scans

-- A scan gives each input a value, and each one that isn't listed the value that the state stores; what is assumed is true of them.
pub record Gives (q : RunQuestion) (inputs : List Bool) : Type 0 where
  pub all : length inputs ≡ length (input_variables (diagram_of q.program).inputs)
  pub stored : (var : ℕ) → (Contains q.listed var → ⊥)
      → slice_index_or (given (diagram_of q.program).inputs inputs q.state.held.values) var false ≡ slice_index_or q.state.held.values var false
  pub allowed : is_allowed q.assumed inputs ≡ true

-- The runs that are asked about.
pub record IsAsked (q : RunQuestion) (scans : List OneScan) : Type 0 where
  pub timed : AreTimed q.timing q.from scans
  pub given : All (λ scan. Gives q scan.inputs) scans

-- The target is ON after these scans.
abbrev pub is_on_after : RunQuestion → List OneScan → Bool
is_on_after q scans = list_all (is_so (after_each (diagram_of q.program) scans q.state.held)) q.target

-- A run switches the target on with its last scan: it is ON after that one, and after none of those before it.
pub record SwitchesOn (q : RunQuestion) (scans : List OneScan) : Type 0 where
  pub asked : IsAsked q scans
  pub some : 0 < length scans
  pub on : is_on_after q scans ≡ true
  pub off : (n : ℕ) → 0 < n → n < length scans → is_on_after q (take n scans) ≡ false

-- No run of at most so many scans leaves the target ON.
abbrev pub StaysOff : RunQuestion → ℕ → Type 0
StaysOff q most = (scans : List OneScan) → IsAsked q scans → 0 < length scans → length scans ≤ most → is_on_after q scans ≡ false

-- No run ever does.
abbrev pub NeverOn : RunQuestion → Type 0
NeverOn q = (scans : List OneScan) → IsAsked q scans → 0 < length scans → is_on_after q scans ≡ false
