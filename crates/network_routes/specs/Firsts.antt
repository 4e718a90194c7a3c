-- Private: a number of each element, from which it follows what it doesn't lead to.
use Rattle.std.specs.Prelude.{◌≡◌, ◌≤◌, ℕ, List, [], ◌∷◌, Option, Some, None, slice_get, unwrap_or}
use Rattle.std.specs.Option.{option_map_or}
use Rattle.network_power.specs.declared.network.Element.{Element}
use Rattle.network_power.specs.declared.network.Network.{Network}
use Rattle.network_power.specs.Network.{Among, left_of}
use Rattle.network_check.specs.declared.effect.Effect.{Effect}
use Rattle.network_routes.specs.Routes.{fed_by, left_in}

-- the number of an element
abbrev pub first_of : (firsts : List ℕ) → (id : ℕ) → ℕ
first_of firsts id = unwrap_or (slice_get firsts id) 0

-- what is connected on the left of an element
abbrev pub before : Network → Element → List ℕ
before net e = option_map_or (left_of net) (left_in e) []

-- These have numbers within a limit.
pub record AreWithin (firsts : List ℕ) (limit : ℕ) (ids : List ℕ) : Type 0 where
  pub within : (id : ℕ) → Among id ids → first_of firsts id ≤ limit

-- The elements have these numbers, and nothing on the left of one of them a larger one.
abbrev pub AreNoLarger : Network → (firsts : List ℕ) → List Element → (own : List ℕ) → Type 0
AreNoLarger net firsts [] own = Unit {0}
AreNoLarger net firsts (e ∷ es) [] = ⊥
AreNoLarger net firsts (e ∷ es) (n ∷ ns) = AreWithin firsts n (before net e) × AreNoLarger net firsts es ns

-- Nothing on the left of an element has a larger number than it.
pub record AreOrdered (net : Network) (firsts : List ℕ) : Type 0 where
  pub ordered : AreNoLarger net firsts net.elements.now firsts

-- What is on the left of what acts has numbers within a limit.
abbrev pub IsWithin : Network → (firsts : List ℕ) → (limit : ℕ) → Effect → Type 0
IsWithin net firsts limit effect = AreWithin firsts limit (fed_by net effect)

-- The same for all of these.
abbrev pub AllWithin : Network → (firsts : List ℕ) → (limit : ℕ) → List Effect → Type 0
AllWithin net firsts limit [] = Unit {0}
AllWithin net firsts limit (effect ∷ effects) = IsWithin net firsts limit effect × AllWithin net firsts limit effects
