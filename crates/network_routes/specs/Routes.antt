-- Routes in a network to what acts: through contacts and coils, whether they are closed or not.
use Rattle.std.specs.Prelude.{◌≡◌, ℕ, List, [], ◌∷◌, ◌++◌, Option, Some, None}
use Rattle.network_power.specs.declared.network.Element.{Element}
use Rattle.network_power.specs.declared.network.Element.TheVariants as element
use Rattle.network_power.specs.declared.network.Links.{Links}
use Rattle.network_power.specs.declared.network.Network.{Network}
use Rattle.network_power.specs.Network.{Among, IsAt, left_of}
use Rattle.network_check.specs.declared.effect.Effect.{Effect}
use Rattle.network_check.specs.declared.effect.Effect.TheVariants.{Coil, Trigger, Call, Return, Jump, Label}

-- what is connected on the left of an element that passes power on
abbrev pub left_in : Element → Option Links
left_in (element.Contact negated operand left) = Some left
left_in (element.Coil left) = Some left
left_in e = None

-- An element is one of these, or a route leads from it to one of them.
pub data Leads (net : Network) (ids : List ℕ) : ℕ → Type 0 where
  one : (id : ℕ) → Among id ids → Leads net ids id
  through : (id next : ℕ) (e : Element) (left : Links) → IsAt net next e → left_in e ≡ Some left → Among id (left_of net left) → Leads net ids next
      → Leads net ids id

-- what is connected on the left of what acts
abbrev pub fed_by : Network → Effect → List ℕ
fed_by net (Coil variable kind left) = left_of net left
fed_by net (Trigger output memory falling left) = left_of net left
fed_by net (Call instance first second) = left_of net first ++ left_of net second
fed_by net (Return left) = left_of net left
fed_by net (Jump over left) = left_of net left
fed_by net Label = []

-- An element leads to what acts so.
abbrev pub LeadsTo : Network → Effect → ℕ → Type 0
LeadsTo net effect id = Leads net (fed_by net effect) id

-- It leads to none of these.
abbrev pub LeadsToNone : Network → List Effect → ℕ → Type 0
LeadsToNone net [] id = Unit {0}
LeadsToNone net (effect ∷ effects) id = (LeadsTo net effect id → ⊥) × LeadsToNone net effects id
