-- Private: how the first pairs are listed.
use Rattle.std.specs.Prelude.{◌≡◌, ◌++◌, ◌∷◌, ◌⊎◌, false, List, [], All, Contains}
use Rattle.diagram_declarations.specs.declared.decls.Symbol.{Symbol}
use Rattle.scan_cycle.specs.Rung.{Held}
use Rattle.scan_symbolic.specs.KnownScan.{Known}
use Rattle.scan_signals.specs.Three.{three_known}
use Rattle.scan_signals.specs.declared.tri.Tri.{Tri}
use Rattle.invariant_cases.specs.declared.outcome.Outcome.{Outcome}
use Rattle.invariant_cases.specs.Allowing.{are_both_on}
use Rattle.invariant_cases.specs.Cases.{both_told}
use Rattle.invariant_cases.specs.declared.pair.Pair.{Pair}

-- In the second list are pairs of the first one, and pairs of the one with some of the others.
abbrev pub AddsPairs : Symbol → List Symbol → List Pair → List Pair → Type 0
AddsPairs first others old new = All (λ pair. Contains old pair ⊎ ((pair.first ≡ first) × Contains others pair.second)) new

-- A pair that is not both ON in the state, and of which what is known tells that it isn't, is in the list.
abbrev pub MustHave : Held → Known Tri Outcome → List Pair → Pair → Type 0
MustHave h after pairs pair = are_both_on h pair ≡ false → both_told pair after ≡ three_known false → Contains pairs pair

-- So it is with each pair of the one and one of the others.
abbrev pub HasEach : Held → Known Tri Outcome → List Pair → Symbol → List Symbol → Type 0
HasEach h after pairs first others = All (λ second. MustHave h after pairs (record { first = first; second = second })) others

-- The second list is the first one, or has the pair as well, of which not both are ON in the state.
abbrev pub MayAdd : Held → Pair → List Pair → List Pair → Type 0
MayAdd h pair old new = (new ≡ old) ⊎ ((new ≡ old ++ (pair ∷ [])) × (are_both_on h pair ≡ false))
