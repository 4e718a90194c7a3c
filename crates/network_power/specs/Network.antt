-- Power in a network of ladder diagram (IEC 61131-3:2013, LD): it flows from the left to the right, along any route.
use Rattle.std.specs.Prelude.{◌≡◌, ℕ, Bool, true, not, if◌then◌else◌, List, ◌∷◌, Some, slice_get, slice_range}
use Rattle.st_expression.specs.declared.expression.Operand.{Operand}
use Rattle.network_power.specs.declared.network.Element.{Element}
use Rattle.network_power.specs.declared.network.Element.TheVariants.{Rail, Contact, Coil, Output}
use Rattle.network_power.specs.declared.network.Links.{Links}
use Rattle.network_power.specs.declared.network.Network.{Network}

pub data Among (x : ℕ) : List ℕ → Type 0 where
  here : (xs : List ℕ) → Among x (x ∷ xs)
  further : (y : ℕ) (xs : List ℕ) → Among x xs → Among x (y ∷ xs)

-- The element with this number.
abbrev pub IsAt : Network → ℕ → Element → Type 0
IsAt net id e = slice_get net.elements.now id ≡ Some e

-- the numbers of the elements that are connected on the left of something
abbrev pub left_of : Network → Links → List ℕ
left_of net left = slice_range net.connections.now left.start left.end

-- A contact is closed where its operand is on, a negated one where it is off.
abbrev pub is_closed : (negated on : Bool) → Bool
is_closed negated on = if negated then not on else on

-- There is power on the right of an element: a route leads there from a rail, or from an output of a block that is on, through closed
-- contacts and through coils.
pub data HasPower (net : Network) (env : Operand → Bool) : ℕ → Type 0 where
  rail : (id : ℕ) → IsAt net id Rail → HasPower net env id
  output : (id : ℕ) (operand : Operand) → IsAt net id (Output operand) → env operand ≡ true → HasPower net env id
  contact : (id before : ℕ) (negated : Bool) (operand : Operand) (left : Links) → IsAt net id (Contact negated operand left)
      → is_closed negated (env operand) ≡ true → Among before (left_of net left) → HasPower net env before → HasPower net env id
  coil : (id before : ℕ) (left : Links) → IsAt net id (Coil left) → Among before (left_of net left) → HasPower net env before
      → HasPower net env id

-- One of these elements has power.
abbrev pub IsFedBy : Network → (Operand → Bool) → List ℕ → Type 0
IsFedBy net env ids = (before : ℕ) × Among before ids × HasPower net env before
