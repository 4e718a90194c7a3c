-- A body of ladder diagram in PLCopen XML (IEC 61131-10), as a network and what its elements do.
use Rattle.std.specs.Prelude.{◌≡◌, ℕ, ◌+◌, ◌==◌, Bool, true, ◌&&◌, List, [], ◌∷◌, codes, Option, Some, None, nat_eq, slice_get}
use Rattle.std.specs.List.{list_all, list_any}
use Rattle.xml_document.specs.Items.{Item}
use Rattle.network_power.specs.declared.network.Links.{Links}
use Rattle.network_check.specs.declared.effect.Effect.{Effect}
use Rattle.network_check.specs.declared.effect.Effect.TheVariants.{Coil, Trigger}
use Rattle.network_check.specs.declared.effect.CoilKind.TheVariants.{Plain}
use Rattle.plc_elements.specs.declared.names.Body.{Body}
use Rattle.plc_elements.specs.declared.order.Key.{Key}
use Rattle.plc_elements.specs.Edges.{IsDue, IsEdgeCoil, IsNext, IsSense, IsTriggered, IsWatch}
use Rattle.plc_elements.specs.Elements.{AreParts, parts_of}
use Rattle.plc_elements.specs.Effects.{IsDone, Lands}
use Rattle.plc_elements.specs.Order.{IsKey, acting_from, are_numbered, comes_before}

-- The part with this number is this one, and has this key.
pub record IsKeyed (b : Body) (number : ℕ) (part : List ℕ × List Item) (key : Key) : Type 0 where
  pub at : slice_get (parts_of b) number ≡ Some part
  pub is_key : IsKey (are_numbered (parts_of b)) part.1 number key

-- It has a key behind that of the part before it, if there is one.
abbrev pub is_behind : Option Key → Key → Bool
is_behind (Some before) key = comes_before before key
is_behind None key = true

-- After `done`, the part with this number does this, before those with the numbers `behind`, which do `next`. The key of the last part that acted is
-- the one before, and then the one after.
pub data Step (b : Body) (done : List Effect) (behind : List ℕ) (next : List Effect) (number : ℕ) : (before after : Option Key) → Effect → Type 0 where
  acts : (part : List ℕ × List Item) (before : Option Key) (key : Key) (effect : Effect) → IsKeyed b number part key → is_behind before key ≡ true
      → IsDone b part.0 part.1 effect → Lands b part.1 effect behind → Step b done behind next number before (Some key) effect
  coil : (part : List ℕ × List Item) (before : Option Key) (key : Key) (falling : Bool) (output variable : ℕ) (left : Links) → IsKeyed b number part key
      → is_behind before key ≡ true → part.0 ≡ codes "coil" → IsEdgeCoil b number part.1 falling output variable left → IsTriggered done falling output
      → Step b done behind next number before (Some key) (Coil variable Plain left)
  sense : (part : List ℕ × List Item) (before : Option Key) (falling : Bool) (output memory : ℕ) (left : Links) → slice_get (parts_of b) number ≡ Some part
      → part.0 ≡ codes "coil" → IsSense b number part.1 falling output left → IsNext number behind
      → Step b done behind next number before before (Trigger output memory falling left)
  watch : (part : List ℕ × List Item) (before : Option Key) (falling : Bool) (output memory : ℕ) (left : Links) → slice_get (parts_of b) number ≡ Some part
      → part.0 ≡ codes "contact" → IsWatch b number part.1 falling output left → IsDue b number done behind next
      → Step b done behind next number before before (Trigger output memory falling left)

-- After `done`, the parts with these numbers do this, one after the other in the order of their keys; a contact with an edge is looked at when it is due.
abbrev pub AreDone : Body → (done : List Effect) → (before : Option Key) → List ℕ → List Effect → Type 0
AreDone b done before [] [] = Unit {0}
AreDone b done before (number ∷ numbers) (effect ∷ effects) =
    (after : Option Key) × Step b done numbers effects number before after effect × AreDone b (effect ∷ done) after numbers effects
AreDone b done before numbers effects = ⊥

-- The triggers have the memories from a number on, one after the other.
abbrev pub have_memories : ℕ → List Effect → Bool
have_memories n [] = true
have_memories n (Trigger output memory falling left ∷ effects) = memory == n && have_memories (n + 1) effects
have_memories n (effect ∷ effects) = have_memories n effects

-- All of these numbers are in the order.
abbrev pub are_in : (order numbers : List ℕ) → Bool
are_in order numbers = list_all (λ number. list_any (nat_eq number) order) numbers

-- The parts of the body are the elements of the network, and all parts that act, and all that are looked at for an edge, do this, in this order.
pub record IsBody (b : Body) (order : List ℕ) (effects : List Effect) : Type 0 where
  pub elements : AreParts b 0 (parts_of b) b.network.elements.now
  pub in_order : AreDone b [] None order effects
  pub memories : have_memories 0 effects ≡ true
  pub all : are_in order (acting_from b 0 (parts_of b)) ≡ true
  pub all_edges : are_in order b.edges.now ≡ true
