-- What is assumed of the inputs of a program, said of the inputs of another one in which each of them has a place.
use Rattle.std.specs.Prelude.{◌≡◌, ◌&&◌, ℕ, Bool, false, List, Option, map, slice_index_or}
use Rattle.st_expression.specs.declared.expression.Expression.{Expression}
use Rattle.assume_truth.specs.Truth.{is_allowed}

-- the values at the places
abbrev pub values_at : (places : List ℕ) → List Bool → List Bool
values_at places values = map (λ place. slice_index_or values place false) places

-- It is true of some values just where the other one is of those at the places.
abbrev pub IsPlaced : Option Expression → (places : List ℕ) → (placed : Option Expression) → Type 0
IsPlaced e places placed = (values : List Bool) → is_allowed placed values ≡ is_allowed e (values_at places values)

-- It is true of some values just where both are, each of those at its places.
abbrev pub IsJoint : (first : Option Expression) → (first_places : List ℕ) → (second : Option Expression) → (second_places : List ℕ)
    → (joint : Option Expression) → Type 0
IsJoint first first_places second second_places joint =
    (values : List Bool) → is_allowed joint values ≡ (is_allowed first (values_at first_places values) && is_allowed second (values_at second_places values))
