-- What is never ON together: pairs of variables and outputs of blocks of which not both are ON, whatever the inputs do.
use Rattle.std.specs.Prelude.{◌≡◌, ◌⊎◌, ◌<◌, false, List, [], All, Contains, length, map, slice_index_or}
use Rattle.diagram_declarations.specs.Decls.{is_input}
use Rattle.diagram_declarations.specs.declared.decls.Symbol.{Symbol}
use Rattle.diagram_declarations.specs.declared.decls.Symbol.TheVariants as symbol
use Rattle.diagram_program.specs.Program.{Drawing}
use Rattle.scan_cycle.specs.Programs.{diagram_of}
use Rattle.scan_cycle.specs.Standing.{Standing}
use Rattle.scan_symbolic.specs.KnownScan.{Known, after_known}
use Rattle.scan_signals.specs.Three.{three, three_known}
use Rattle.scan_signals.specs.declared.tri.Tri.{Tri}
use Rattle.scan_signals.specs.declared.tri.Tri.TheVariants.{Unsure}
use Rattle.invariant_cases.specs.Allowing.{AreApart, are_both_on}
use Rattle.invariant_cases.specs.Assuming.{Assumed, nothing}
use Rattle.invariant_cases.specs.Cases.{IsSettledAssuming, both_told}
use Rattle.invariant_cases.specs.Outcomes.{outcomes}
use Rattle.invariant_cases.specs.declared.outcome.Outcome.{Outcome}
use Rattle.invariant_cases.specs.declared.pair.Pair.{Pair}
use Rattle.invariant_sets.specs.Never.{Bits, claims, knowing}

-- A variable of the program that is no input, or an instance of it, of which the set claims nothing.
abbrev pub IsOutside : Drawing → Bits → Symbol → Type 0
IsOutside p z (symbol.Var var) = (var < length p.decls.vars) × (slice_index_or (map is_input p.decls.vars) var false ≡ false) × (claims z.variables var ≡ Unsure)
IsOutside p z (symbol.Instance inst) = (inst < length p.decls.instances) × (claims z.instances inst ≡ Unsure)

-- Both of a pair are.
pub record IsPairOutside (p : Drawing) (z : Bits) (pair : Pair) : Type 0 where
  pub first : IsOutside p z pair.first
  pub second : IsOutside p z pair.second

-- Not both of the target are ON.
abbrev pub IsExcludedAssuming : Drawing → Assumed → List Pair → Pair → Known Tri Outcome → Type 0
IsExcludedAssuming p a pairs target k = IsSettledAssuming p a pairs target false k

-- where nothing is assumed
abbrev pub IsExcluded : Drawing → List Pair → Pair → Known Tri Outcome → Type 0
IsExcluded p pairs target k = IsExcludedAssuming p nothing pairs target k

-- Of each pair not both are ON after a scan from all that is known where the set is so and of no pair both are ON.
abbrev pub AreExcluded : Drawing → Assumed → Bits → List Pair → Type 0
AreExcluded p a z pairs = All (λ pair. IsExcludedAssuming p a pairs pair (knowing p z)) pairs

-- Pairs of what is outside the set, not both ON in a state, and settled to stay so where what is assumed of the inputs is true.
pub record ArePairsAssuming (p : Drawing) (a : Assumed) (s : Standing) (z : Bits) (pairs : List Pair) : Type 0 where
  pub outside : All (IsPairOutside p z) pairs
  pub apart : AreApart pairs s.held
  pub excluded : AreExcluded p a z pairs

-- where nothing is assumed
abbrev pub ArePairs : Drawing → Standing → Bits → List Pair → Type 0
ArePairs p s z pairs = ArePairsAssuming p nothing s z pairs

-- One scan over three values from what is known tells that not both of a pair are ON after it.
abbrev pub IsToldApart : Drawing → Pair → Known Tri Outcome → Type 0
IsToldApart p pair k = both_told pair (after_known three outcomes (diagram_of p) 0 [] k) ≡ three_known false

-- the pair the other way round
abbrev pub turned : Pair → Pair
turned pair = record { first = pair.second; second = pair.first }

-- All that one scan tells is listed: each pair of two that are outside the set, not both ON in a state, of which one scan from all that is known
-- where the set is so tells that not both are ON after it, is among the pairs, in one order or the other.
abbrev pub HasToldApart : Drawing → Standing → Bits → List Pair → Type 0
HasToldApart p s z pairs = (pair : Pair) → IsPairOutside p z pair → (pair.first ≡ pair.second → ⊥) → are_both_on s.held pair ≡ false
    → IsToldApart p pair (knowing p z) → Contains pairs pair ⊎ Contains pairs (turned pair)
