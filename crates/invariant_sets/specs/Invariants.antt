-- What stays so from a state on: a set of claims, and pairs of which not both are ON. Each may keep up the other.
use Rattle.std.specs.Prelude.{◌≡◌, ℕ, Bool, true, false, List, [], ◌∷◌, All, filter, length, slice_index_or}
use Rattle.std.specs.List.{range_with_len}
use Rattle.diagram_declarations.specs.declared.decls.Symbol.TheVariants as symbol
use Rattle.diagram_program.specs.Program.{Drawing}
use Rattle.scan_cycle.specs.Programs.{diagram_of}
use Rattle.scan_cycle.specs.Rung.{Held}
use Rattle.scan_cycle.specs.Scan.{after_scan, given}
use Rattle.scan_cycle.specs.Standing.{Standing, Fits, IsStanding}
use Rattle.scan_signals.specs.Three.{three_known}
use Rattle.invariant_cases.specs.Allowing.{AllowsState, AreApart}
use Rattle.assume_truth.specs.Truth.{is_allowed}
use Rattle.invariant_cases.specs.Assuming.{Assumed, IsTrueIn, nothing}
use Rattle.invariant_cases.specs.Cases.{IsSettledAssuming, of_itself}
use Rattle.invariant_cases.specs.declared.pair.Pair.{Pair}
use Rattle.scan_cycle.specs.Runs.{OneScan, after_each}
use Rattle.invariant_sets.specs.Never.{Bits, IsSetOf, IsSo, IsWithin, Stays, claims, knowing}
use Rattle.invariant_sets.specs.Pairs.{ArePairs, ArePairsAssuming}
use Rattle.invariant_sets.specs.declared.staying.Staying.{Staying}

-- All that a set claims is settled to be so after a scan from all that is known where the set is so, of no pair both are ON and what is assumed of
-- the inputs is true: the pair of each variable with itself, and of each instance with itself.
pub record IsSettledSoAssuming (p : Drawing) (a : Assumed) (z : Bits) (pairs : List Pair) : Type 0 where
  pub variables : (var : ℕ) (value : Bool) → claims z.variables var ≡ three_known value → IsSettledAssuming p a pairs (of_itself (symbol.Var var)) value (knowing p z)
  pub instances : (inst : ℕ) (value : Bool) → claims z.instances inst ≡ three_known value → IsSettledAssuming p a pairs (of_itself (symbol.Instance inst)) value (knowing p z)

-- where nothing is assumed
abbrev pub IsSettledSo : Drawing → Bits → List Pair → Type 0
IsSettledSo p z pairs = IsSettledSoAssuming p nothing z pairs

-- The set is so in a state and settled to stay so where of no pair both are ON. Each set that is so in the state, and that one scan over three
-- values leaves so, without cases, is within it.
pub record IsSteadyAssuming (p : Drawing) (a : Assumed) (s : Standing) (z : Bits) (pairs : List Pair) : Type 0 where
  pub set : IsSetOf p z
  pub so : IsSo z s.held
  pub settled : IsSettledSoAssuming p a z pairs
  pub most : (other : Bits) → IsSetOf p other → IsSo other s.held → Stays p other → IsWithin other z

-- where nothing is assumed
abbrev pub IsSteady : Drawing → Standing → Bits → List Pair → Type 0
IsSteady p s z pairs = IsSteadyAssuming p nothing s z pairs

-- All that the set claims is settled to stay so from this state on, and the pairs to stay apart, by each other.
pub record IsStayingAssuming (p : Drawing) (a : Assumed) (s : Standing) (staying : Staying) : Type 0 where
  pub steady : IsSteadyAssuming p a s staying.steady staying.apart
  pub apart : ArePairsAssuming p a s staying.steady staying.apart

-- where nothing is assumed
abbrev pub IsStaying : Drawing → Standing → Staying → Type 0
IsStaying p s staying = IsStayingAssuming p nothing s staying

-- In each of these scans, from a state on, what is assumed is true of the inputs as they are given.
abbrev pub AreAllowed : Drawing → Assumed → List OneScan → Held → Type 0
AreAllowed p a [] h = Unit {0}
AreAllowed p a (scan ∷ more) h = IsTrueIn a (record { values = given (diagram_of p).inputs scan.inputs h.values; kept = h.kept })
    × AreAllowed p a more (after_scan (diagram_of p) scan.moment scan.inputs h)

-- A scan gives each input a value, and with these what is assumed is true.
abbrev pub IsGivenAllowed : Assumed → OneScan → Type 0
IsGivenAllowed a scan = (length scan.inputs ≡ length a.inputs) × (is_allowed a.expression scan.inputs ≡ true)

-- the numbers of the variables that are inputs, in order of declaration
abbrev pub input_numbers : Drawing → List ℕ
input_numbers p =
    let inputs = (diagram_of p).inputs in
    filter (λ var. slice_index_or inputs var false) (range_with_len 0 (length inputs))

-- Such scans are allowed, from any state of the program.
abbrev pub AllowsGiven : Drawing → Type 0
AllowsGiven p = (a : Assumed) → a.inputs ≡ input_numbers p → (s : Standing) → Fits p s
    → (scans : List OneScan) → All (IsGivenAllowed a) scans → AreAllowed p a scans s.held

-- Where nothing is assumed any scans are.
abbrev pub AllowsAll : Drawing → Type 0
AllowsAll p = (scans : List OneScan) (h : Held) → AreAllowed p nothing scans h

-- Such a set is so for ever, and such pairs are apart for ever: where it is so in a state, and of no pair both are ON, it is so after any scans
-- from there in which what is assumed is true, with any other inputs and at any moments.
abbrev pub StaysAssuming : Drawing → Type 0
StaysAssuming p = (a : Assumed) (s : Standing) → Fits p s → IsStanding s → (z : Bits) → IsSetOf p z → IsSo z s.held
    → (pairs : List Pair) → ArePairsAssuming p a s z pairs → IsSettledSoAssuming p a z pairs
    → (scans : List OneScan) → AreAllowed p a scans s.held
    → IsSo z (after_each (diagram_of p) scans s.held) × AreApart pairs (after_each (diagram_of p) scans s.held)

-- Such a set is so for ever, and such pairs are apart for ever: where it is so in a state, and of no pair both are ON, it is so after any scans
-- from there, with any inputs and at any moments.
abbrev pub StaysForEver : Drawing → Type 0
StaysForEver p = (s : Standing) → Fits p s → IsStanding s → (z : Bits) → IsSetOf p z → IsSo z s.held
    → (pairs : List Pair) → ArePairs p s z pairs → IsSettledSo p z pairs
    → (scans : List OneScan) → IsSo z (after_each (diagram_of p) scans s.held) × AreApart pairs (after_each (diagram_of p) scans s.held)

-- All that is known where a set is so allows each state in which it is so, at any moment.
abbrev pub KnowingAllows : Drawing → Type 0
KnowingAllows p = (s : Standing) → Fits p s → IsStanding s → (z : Bits) → IsSetOf p z → IsSo z s.held → (moment : ℕ) → AllowsState p moment (knowing p z) s.held
