-- Contacts and coils that act by an edge (IEC 61131-3: transition-sensing). Each has a trigger of its own, which looks for the edge.
use Rattle.std.specs.Prelude.{◌≡◌, ◌⊎◌, ℕ, Bool, true, false, List, [], ◌∷◌, codes, Some, slice_get}
use Rattle.std.specs.Option.{option_map_or}
use Rattle.std.specs.Str.{bytes_eq}
use Rattle.st_expression.specs.declared.expression.Operand.{Operand}
use Rattle.st_expression.specs.declared.expression.Operand.TheVariants as operand
use Rattle.xml_document.specs.Items.{Item}
use Rattle.network_power.specs.declared.network.Element.TheVariants.{Output}
use Rattle.network_power.specs.declared.network.Links.{Links}
use Rattle.network_power.specs.Network.{IsAt, left_of}
use Rattle.network_check.specs.declared.effect.Effect.{Effect}
use Rattle.network_check.specs.declared.effect.Effect.TheVariants.{Trigger}
use Rattle.network_check.specs.declared.effect.CoilKind.TheVariants.{Plain}
use Rattle.network_routes.specs.Routes.{LeadsTo, LeadsToNone}
use Rattle.plc_elements.specs.declared.names.Body.{Body}
use Rattle.plc_elements.specs.Added.{trigger_of}
use Rattle.plc_elements.specs.Elements.{AreConnected, parts_of}
use Rattle.plc_elements.specs.Names.{IsCalled, IsVariable}
use Rattle.plc_elements.specs.Words.{coil_kind, connections_in, falling_in, negation, word_in}

-- On the left of something stands one element, which has power where the operand is on.
pub record IsFrom (b : Body) (left : Links) (of : Operand) : Type 0 where
  pub number : ℕ
  pub only : left_of b.network left ≡ number ∷ []
  pub at : IsAt b.network number (Output of)

-- The part acts by an edge, and this variable is the output of its trigger.
pub record IsEdge (b : Body) (number : ℕ) (items : List Item) (falling : Bool) (variable : ℕ) : Type 0 where
  pub is_edge : falling_in items ≡ Some falling
  pub triggered : trigger_of b number ≡ Some variable

-- ---- contacts

-- The trigger of a contact looks at what the contact names.
pub record IsWatch (b : Body) (number : ℕ) (items : List Item) (falling : Bool) (variable : ℕ) (left : Links) : Type 0 where
  pub of : Operand
  pub is : IsEdge b number items falling variable
  pub called : IsCalled b.names of (word_in (codes "variable") items)
  pub from : IsFrom b left of

abbrev pub is_contact : Body → (number : ℕ) → Bool
is_contact b number = option_map_or (λ part. bytes_eq part.0 (codes "contact")) (slice_get (parts_of b) number) false

-- It leads to the next that acts, behind triggers of contacts.
abbrev pub LeadsToNext : Body → (id : ℕ) → List ℕ → List Effect → Type 0
LeadsToNext b id (number ∷ numbers) (effect ∷ effects) =
    ((is_contact b number ≡ true) × LeadsToNext b id numbers effects) ⊎ ((is_contact b number ≡ false) × LeadsTo b.network effect id)
LeadsToNext b id numbers effects = ⊥

-- The trigger of a contact is called directly before the first that acts by what the contact leads to.
pub record IsDue (b : Body) (id : ℕ) (done : List Effect) (numbers : List ℕ) (effects : List Effect) : Type 0 where
  pub none_before : LeadsToNone b.network done id
  pub next : LeadsToNext b id numbers effects

-- ---- coils

-- The trigger of a coil is called by the power of the coil.
pub record IsSense (b : Body) (number : ℕ) (items : List Item) (falling : Bool) (variable : ℕ) (left : Links) : Type 0 where
  pub is : IsEdge b number items falling variable
  pub connected : AreConnected b left (connections_in items)

-- A coil with an edge writes what its trigger has found.
pub record IsEdgeCoil (b : Body) (number : ℕ) (items : List Item) (falling : Bool) (output variable : ℕ) (left : Links) : Type 0 where
  pub is : IsEdge b number items falling output
  pub is_negated : negation items ≡ Some false
  pub is_kind : coil_kind false items ≡ Some Plain
  pub called : IsVariable b.names variable (word_in (codes "variable") items)
  pub from : IsFrom b left (operand.Variable output)

-- The last thing done is the call of the trigger with this output.
abbrev pub IsTriggered : List Effect → (falling : Bool) → (output : ℕ) → Type 0
IsTriggered done falling output = (memory : ℕ) × (left : Links) × (others : List Effect) × (done ≡ Trigger output memory falling left ∷ others)

abbrev pub IsNext : (number : ℕ) → List ℕ → Type 0
IsNext number numbers = (others : List ℕ) × (numbers ≡ number ∷ others)
