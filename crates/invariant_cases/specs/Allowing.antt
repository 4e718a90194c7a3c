-- Which states what is known allows.
use Rattle.std.specs.Prelude.{◌≡◌, ◌&&◌, ℕ, Bool, false, List, [], All, slice_index_or}
use Rattle.diagram_declarations.specs.declared.kind.BlockKind.TheVariants.{Ton}
use Rattle.diagram_program.specs.Program.{Drawing}
use Rattle.scan_signals.specs.Blocks.{q_of, new_block}
use Rattle.scan_signals.specs.Relations.{AllowsAt}
use Rattle.scan_signals.specs.Truth.{OnePlace, plain}
use Rattle.scan_cycle.specs.Programs.{diagram_of}
use Rattle.scan_cycle.specs.Rung.{Held}
use Rattle.scan_cycle.specs.Scan.{after_scan}
use Rattle.scan_symbolic.specs.KnownScan.{Known, all_known, plainly}
use Rattle.scan_symbolic.specs.KnownLaws.{BothKnown}
use Rattle.scan_signals.specs.Three.{AnyTri, three_allows}
use Rattle.scan_signals.specs.declared.tri.Tri.{Tri}
use Rattle.invariant_cases.specs.Assuming.{Assumed, IsTrueIn}
use Rattle.invariant_cases.specs.Cases.{IsSettledAssuming, IsSettledBoth, point_of}
use Rattle.invariant_cases.specs.Outcomes.{MayStore}
use Rattle.invariant_cases.specs.declared.outcome.Outcome.{Outcome}
use Rattle.invariant_cases.specs.declared.pair.Pair.{Pair}
use Rattle.invariant_cases.specs.declared.point.Point.{Point}
use Rattle.invariant_cases.specs.declared.point.Point.TheVariants.{Variable, Output, Memory, Answer as AnswerOf}

abbrev pub Allows : Tri → Bool → Type 0
Allows = AllowsAt AnyTri OnePlace three_allows 0

-- The state may be this one, where a scan of it is made at the moment: what is known allows each value and each memory, and each instance
-- may store what it does.
abbrev pub AllowsState : Drawing → ℕ → Known Tri Outcome → Held → Type 0
AllowsState p moment k h = BothKnown Allows (λ inst. MayStore ((diagram_of p).kind inst) ((diagram_of p).preset inst) moment) k (all_known plain plainly h)

-- Whether a point is ON in a state; what an instance answers is no truth value.
abbrev pub is_on_in : Point → Held → Bool
is_on_in (Variable var) h = slice_index_or h.values var false
is_on_in (Output inst) h = q_of (slice_index_or h.kept.blocks inst (new_block Ton))
is_on_in (Memory number) h = slice_index_or h.kept.memories number false
is_on_in (AnswerOf inst) h = false

-- Both of a pair are ON in a state.
abbrev pub are_both_on : Held → Pair → Bool
are_both_on h pair = is_on_in (point_of pair.first) h && is_on_in (point_of pair.second) h

-- In a state of no pair both are ON.
abbrev pub AreApart : List Pair → Held → Type 0
AreApart pairs h = All (λ pair. are_both_on h pair ≡ false) pairs

-- What is settled of both of a target is so after one scan from each state that what is known allows, at the same moment, in which of no pair
-- both are ON and what is assumed is true. The scan gives no input a value, so that inputs keep theirs.
abbrev pub SettledHoldsAssuming : Drawing → Type 0
SettledHoldsAssuming p = (a : Assumed) (pairs : List Pair) (target : Pair) (value : Bool) (k : Known Tri Outcome) → IsSettledAssuming p a pairs target value k
    → (moment : ℕ) (h : Held) → AllowsState p moment k h → AreApart pairs h → IsTrueIn a h → are_both_on (after_scan (diagram_of p) moment [] h) target ≡ value

-- where nothing is assumed
abbrev pub SettledBothHolds : Drawing → Type 0
SettledBothHolds p = (pairs : List Pair) (target : Pair) (value : Bool) (k : Known Tri Outcome) → IsSettledBoth p pairs target value k
    → (moment : ℕ) (h : Held) → AllowsState p moment k h → AreApart pairs h → are_both_on (after_scan (diagram_of p) moment [] h) target ≡ value
