-- What is possible, asked of the runs from one state: what a row says of its number, and that no run comes to a number without one. Where something
-- is assumed of the inputs, only those runs count in each of whose scans it is true.
use Rattle.std.specs.Prelude.{◌≡◌, ℕ, Bool, ◌+◌, ◌<◌, ◌≤◌, ◌^◌, true, List, [], ◌∷◌, All, Option, length, map, slice_index_or}
use Rattle.std.specs.List.{range_with_len}
use Rattle.diagram_declarations.specs.declared.decls.Symbol.TheVariants as symbol
use Rattle.st_expression.specs.declared.expression.Expression.{Expression}
use Rattle.diagram_program.specs.Program.{Drawing}
use Rattle.scan_cycle.specs.Programs.{diagram_of}
use Rattle.scan_cycle.specs.Runs.{IsRun, OneScan}
use Rattle.scan_cycle.specs.Standing.{Standing}
use Rattle.causes_query.specs.Assignment.{bit_of, input_variables}
use Rattle.causes_any_state.specs.Possible.{MayStay, SomeLeavesBy}
use Rattle.invariant_sets.specs.Invariants.{IsGivenAllowed, input_numbers}
use Rattle.invariant_runs.specs.Reached.{reached}
use Rattle.causes_any_state.specs.declared.before.Before.TheVariants.{Any}
use Rattle.causes_any_state.specs.declared.states.States.{States}
use Rattle.reach_runs.specs.Asking.{NeverOn, RunQuestion, SwitchesOn}
use Rattle.reach_runs.specs.declared.target.Literal.{Literal}
use Rattle.reach_runs.specs.declared.timing.Timing.TheVariants.{AnyMoments}
use Rattle.causes_in_runs.specs.declared.row.Reached.{Reached}
use Rattle.causes_in_runs.specs.declared.row.Reached.TheVariants.{Run, Possible, Unsettled}
use Rattle.causes_in_runs.specs.declared.row.RunCause.{RunCause}

-- The variable has this value.
abbrev pub value_of : ℕ → Bool → Literal
value_of var value = record { symbol = symbol.Var var; value = value }

-- Each of the first listed inputs, as many as these, has its bit of the number.
abbrev pub bits_below : List ℕ → ℕ → ℕ → List Literal
bits_below listed n few = map (λ place. value_of (slice_index_or listed place 0) (bit_of (length listed) place n)) (range_with_len 0 few)

-- The coil is ON, and each of the listed inputs has its bit of the number.
abbrev pub row_target : ℕ → List ℕ → ℕ → List Literal
row_target coil listed n = value_of coil true ∷ bits_below listed n (length listed)

-- What is asked of the runs from a state, at any moments from its own on, all inputs of which may change, with which what is assumed is true: whether
-- one leaves the coil ON with the listed inputs at the bits of the number. An input keeps the value that a scan gives it, so that the last scan of
-- such a run is one with the assignment of the number.
abbrev pub row_question : Option Expression → Drawing → Standing → ℕ → List ℕ → ℕ → RunQuestion
row_question assumed p s coil listed n = record {
  program = p;
  state = s;
  from = s.moment;
  timing = AnyMoments;
  listed = input_variables (diagram_of p).inputs;
  target = row_target coil listed n;
  assumed = assumed;
}

-- A run comes to the number.
abbrev pub IsReached : Option Expression → Drawing → Standing → ℕ → List ℕ → ℕ → Type 0
IsReached assumed p s coil listed n = (run : List OneScan) × SwitchesOn (row_question assumed p s coil listed n) run

-- No run ever does.
abbrev pub IsUnreached : Option Expression → Drawing → Standing → ℕ → List ℕ → ℕ → Type 0
IsUnreached assumed p s coil listed n = NeverOn (row_question assumed p s coil listed n)

-- What a row says of its number: that a run comes to it, that some state that counts leads to it, or nothing.
abbrev pub RowSays : Option Expression → Reached → Drawing → Standing → ℕ → List ℕ → States → ℕ → Type 0
RowSays assumed Run p s coil listed states n = IsReached assumed p s coil listed n
RowSays assumed Possible p s coil listed states n = SomeLeavesBy assumed p coil listed states true n
RowSays assumed Unsettled p s coil listed states n = Unit {0}

-- No run ever comes to a number from the one on, and below the other.
abbrev pub AreUnreached : Option Expression → Drawing → Standing → ℕ → List ℕ → ℕ → ℕ → Type 0
AreUnreached assumed p s coil listed from to = (n : ℕ) → from ≤ n → n < to → IsUnreached assumed p s coil listed n

-- Each of these scans gives each input a value, and with these what is assumed is true.
abbrev pub AreAsAssumed : Option Expression → Drawing → List OneScan → Type 0
AreAsAssumed assumed p scans = All (IsGivenAllowed (record { inputs = input_numbers p; expression = assumed })) scans

-- Each state that such a run from this one reaches counts: the coil's variable may have any value, and it is so in each what stays so.
pub record AllCount (assumed : Option Expression) (p : Drawing) (s : Standing) (states : States) : Type 0 where
  pub any : states.before ≡ Any
  pub stays : (scans : List OneScan) → IsRun s.moment scans → AreAsAssumed assumed p scans → MayStay states.staying (reached p scans s).held

-- What a caller sees of a cursor: what it was asked, and the number that it goes on from.
pub record RunCursor : Type 0 where
  pub program : Drawing
  pub state : Standing
  pub coil : ℕ
  pub listed : List ℕ
  pub states : States
  pub assumed : Option Expression
  pub from : ℕ

-- A row that a cursor gives: no run comes to a number before it, from where it went on, and what it says of its number holds.
pub record GivesRun (c : RunCursor) (row : RunCause) (d : RunCursor) : Type 0 where
  pub from : c.from ≤ row.number
  pub within : row.number < 2 ^ length c.listed
  pub unreached_before : AreUnreached c.assumed c.program c.state c.coil c.listed c.from row.number
  pub said : RowSays c.assumed row.reached c.program c.state c.coil c.listed c.states row.number
  pub then : d ≡ record c { from = row.number + 1 }

-- Rows from the one number on, below the other: ascending, no run comes to a number without one, and what a row says of its number holds.
abbrev pub AreRunRows : Option Expression → Drawing → Standing → ℕ → List ℕ → States → ℕ → ℕ → List RunCause → Type 0
AreRunRows assumed p s coil listed states from to [] = AreUnreached assumed p s coil listed from to
AreRunRows assumed p s coil listed states from to (row ∷ rows) = (from ≤ row.number) × (row.number < to) × AreUnreached assumed p s coil listed from row.number
    × RowSays assumed row.reached p s coil listed states row.number × AreRunRows assumed p s coil listed states (row.number + 1) to rows
