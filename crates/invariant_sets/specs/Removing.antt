-- Private: what is left of a set in one round of removing.
use Rattle.std.specs.Prelude.{◌≡◌, ◌⊎◌, ◌<◌, All, ℕ, ◌+◌, Bool, true, false, List, length, slice_index_or, count_by}
use Rattle.diagram_program.specs.Program.{Drawing}
use Rattle.scan_symbolic.specs.KnownScan.{Known, kept_at}
use Rattle.scan_signals.specs.Three.{three_known}
use Rattle.scan_signals.specs.declared.tri.Tri.{Tri}
use Rattle.scan_signals.specs.declared.tri.Tri.TheVariants.{Off, On, Unsure}
use Rattle.invariant_sets.specs.Never.{Bits, IsSetOf, IsWithin, Stays, after_knowing, claims}
use Rattle.invariant_cases.specs.Assuming.{Assumed}
use Rattle.invariant_cases.specs.Cases.{IsSettledAssuming, of_itself, point_of, told}
use Rattle.invariant_cases.specs.Allowing.{AreApart}
use Rattle.invariant_cases.specs.Outcomes.{outcomes, q_known}
use Rattle.invariant_cases.specs.declared.outcome.Outcome.{Outcome}
use Rattle.invariant_cases.specs.declared.pair.Pair.{Pair}
use Rattle.diagram_declarations.specs.declared.decls.Symbol.{Symbol}
use Rattle.scan_cycle.specs.Standing.{Standing}
use Rattle.invariant_sets.specs.Invariants.{IsSettledSoAssuming}
use Rattle.invariant_sets.specs.Pairs.{ArePairsAssuming, HasToldApart, IsPairOutside}

-- What the first set claims, one scan from the second one leaves so.
pub record AreLeftSo (p : Drawing) (z w : Bits) : Type 0 where
  pub variables : (var : ℕ) (value : Bool) → claims z.variables var ≡ three_known value → slice_index_or (after_knowing p w).values var Unsure ≡ three_known value
  pub instances : (inst : ℕ) (value : Bool) → claims z.instances inst ≡ three_known value → q_known (kept_at outcomes (after_knowing p w) inst) ≡ three_known value

-- A set that stays so is left so by a scan from each set that it is within.
abbrev pub LeavesSo : Drawing → Type 0
LeavesSo p = (z w : Bits) → IsSetOf p z → IsSetOf p w → IsWithin z w → Stays p z → AreLeftSo p z w

-- something is claimed
abbrev pub is_claim : Tri → Bool
is_claim Off = true
is_claim On = true
is_claim Unsure = false

-- of how many something is claimed
abbrev pub members : List Tri → ℕ
members = count_by is_claim

-- of how many of a set
abbrev pub size : Bits → ℕ
size z = members z.variables + members z.instances

-- One is settled to have the value after a scan from the case; without scans for cases, that scan over three values tells it.
pub data IsLeftSo (p : Drawing) (a : Assumed) (pairs : List Pair) (symbol : Symbol) (after case : Known Tri Outcome) (scans : ℕ) (value : Bool) : Type 0 where
  left_so : IsSettledAssuming p a pairs (of_itself symbol) value case → (scans ≡ 0 → told (point_of symbol) after ≡ three_known value) → IsLeftSo p a pairs symbol after case scans value

-- The second list claims some of what the first does: all that is told, and nothing without the property.
pub record IsLeftBy (telling : ℕ → Tri) (P : ℕ → Bool → Type 0) (bits left : List Tri) (removed : ℕ) : Type 0 where
  pub within : (i : ℕ) (value : Bool) → claims left i ≡ three_known value → claims bits i ≡ three_known value
  pub holds : (i : ℕ) (value : Bool) → claims left i ≡ three_known value → P i value
  pub kept : (i : ℕ) (value : Bool) → claims bits i ≡ three_known value → telling i ≡ three_known value → claims left i ≡ three_known value
  pub length : length left ≡ length bits
  pub count : members left + removed ≡ members bits
  pub same : removed ≡ 0 → left ≡ bits

-- The same where the first n have been tried.
pub record IsLeftSoFar (telling : ℕ → Tri) (P : ℕ → Bool → Type 0) (bits left : List Tri) (removed n : ℕ) : Type 0 where
  pub within : (i : ℕ) (value : Bool) → claims left i ≡ three_known value → claims bits i ≡ three_known value
  pub holds : (i : ℕ) (value : Bool) → i < n → claims left i ≡ three_known value → P i value
  pub kept : (i : ℕ) (value : Bool) → claims bits i ≡ three_known value → telling i ≡ three_known value → claims left i ≡ three_known value
  pub length : length left ≡ length bits
  pub count : members left + removed ≡ members bits
  pub same : removed ≡ 0 → left ≡ bits

-- ---- sets and pairs together

-- The second set is left of the first: of each set that one scan leaves so, all that was claimed is.
pub record IsLeftOf (p : Drawing) (z w : Bits) : Type 0 where
  pub set : IsSetOf p w
  pub within : IsWithin w z
  pub most : (other : Bits) → IsSetOf p other → Stays p other → IsWithin other z → IsWithin other w

-- Pairs of what is outside the set, not both ON in a state: all that one scan tells to stay apart are among them.
pub record MayStayApart (p : Drawing) (s : Standing) (z : Bits) (pairs : List Pair) : Type 0 where
  pub outside : All (IsPairOutside p z) pairs
  pub apart : AreApart pairs s.held
  pub told : HasToldApart p s z pairs

-- All of the set is settled with the pairs, and the pairs are settled with the set.
pub record StayTogether (p : Drawing) (a : Assumed) (s : Standing) (z : Bits) (pairs : List Pair) : Type 0 where
  pub settled : IsSettledSoAssuming p a z pairs
  pub apart : ArePairsAssuming p a s z pairs
  pub told : HasToldApart p s z pairs

-- The second list has what the first does, but for some of which the third claims nothing.
abbrev pub IsThinned : List Tri → List Tri → List Tri → Type 0
IsThinned bits left kept = (length left ≡ length bits) × ((i : ℕ) → (claims left i ≡ claims bits i) ⊎ ((claims left i ≡ Unsure) × (claims kept i ≡ Unsure)))
