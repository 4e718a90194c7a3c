-- A body of ladder diagram in PLCopen XML, as a network: what each of its parts is, and what is connected with what.
use Rattle.std.specs.Prelude.{◌≡◌, ◌⊎◌, ℕ, ◌+◌, Bool, true, false, List, [], ◌∷◌, codes, Option, Some, None, map, slice_get, nat_lt}
use Rattle.std.specs.Option.{option_map_or}
use Rattle.std.specs.List.{position_from}
use Rattle.std.specs.Str.{bytes_eq}
use Rattle.diagram_declarations.specs.Name.{same_letters}
use Rattle.st_expression.specs.declared.expression.Operand.{Operand}
use Rattle.st_expression.specs.declared.expression.Operand.TheVariants as operand
use Rattle.st_program.specs.declared.program.StInstance.{StInstance}
use Rattle.st_program.specs.declared.symbols.Sort.TheVariants as sort
use Rattle.st_program.specs.declared.symbols.StVariable.{StVariable}
use Rattle.st_program.specs.Items.{output_word}
use Rattle.xml_document.specs.Items.{Item}
use Rattle.xml_parts.specs.Parts.{attribute_in, items_from, part_of}
use Rattle.network_power.specs.declared.network.Element.{Element}
use Rattle.network_power.specs.declared.network.Element.TheVariants.{Rail, Contact, Coil, Output}
use Rattle.network_power.specs.declared.network.Links.{Links}
use Rattle.network_power.specs.Network.{IsAt, left_of}
use Rattle.plc_elements.specs.declared.names.Body.{Body}
use Rattle.plc_elements.specs.declared.names.Names.{Names}
use Rattle.plc_elements.specs.Added.{opened_by, trigger_of}
use Rattle.plc_elements.specs.Names.{IsBlock, IsCalled, IsTriggerBlock}
use Rattle.plc_elements.specs.Unknown.{is_unknown}
use Rattle.plc_elements.specs.Words.{attribute_or, connections_in, falling_in, is_plain, negation, says_none, word_in}

-- Each thing of one list is so related to the one at its place in another list, and both are as long.
abbrev pub Each : {X Y : Type 0} → (X → Y → Type 0) → List X → List Y → Type 0
Each R [] [] = Unit {0}
Each R (x ∷ xs) (y ∷ ys) = R x y × Each R xs ys
Each R xs ys = ⊥

-- the parts of the body: the name of each, and the items from behind it on
abbrev pub parts_of : Body → List (List ℕ × List Item)
parts_of b = map (part_of b.document.now) b.parts.now

-- ---- connections

abbrev pub has_number : (number : List ℕ) → List Item → Bool
has_number number items = option_map_or (bytes_eq number) (attribute_in (codes "localId") items) false

-- It may give power to what it is connected with: it is no coil with nothing on its left.
abbrev pub gives : Element → Bool
gives (Coil left) = nat_lt left.start left.end
gives _ = true

-- The variable with this number is a BOOL, and so no trigger.
pub record IsBool (names : Names) (number : ℕ) : Type 0 where
  pub variable : StVariable
  pub at : slice_get names.variables.now number ≡ Some variable
  pub is_bool : variable.sort ≡ sort.Bool

-- The connection is with the output of a block or a trigger that it has, where it names one; the name of an output of anything else says nothing.
abbrev pub IsOfOutput : Body → Element → (output : List ℕ) → Type 0
IsOfOutput b (Output (operand.Output number)) output = (output ≡ []) ⊎ ((block : StInstance) × (slice_get b.names.instances.now number ≡ Some block)
    × (same_letters output (output_word block.kind) ≡ true))
IsOfOutput b (Output (operand.Variable number)) output = (output ≡ []) ⊎ ((same_letters output (codes "Q") ≡ true) ⊎ IsBool b.names number)
IsOfOutput b e output = Unit {0}

-- The connection refers to the part with this number among the parts: the first whose `localId` is the one that it has.
pub record Refers (b : Body) (number : ℕ) (connection : List Item) : Type 0 where
  pub reference : List ℕ
  pub has : attribute_in (codes "refLocalId") connection ≡ Some reference
  pub first : position_from (λ part. has_number reference part.1) 0 (parts_of b) ≡ Some number

-- The connection is with the part with this number, which may give power.
pub record IsWithPart (b : Body) (number : ℕ) (connection : List Item) : Type 0 where
  pub element : Element
  pub refers : Refers b number connection
  pub at : IsAt b.network number element
  pub gives : gives element ≡ true
  pub of_output : IsOfOutput b element (attribute_or (codes "formalParameter") [] connection)

-- The connection is with an output of a block that isn't known. In its place stands the element with this number, which gives power where the variable
-- of the output is on.
pub record IsWithOpened (b : Body) (number : ℕ) (connection : List Item) : Type 0 where
  pub block : ℕ
  pub part : List ℕ × List Item
  pub variable : ℕ
  pub refers : Refers b block connection
  pub at : slice_get (parts_of b) block ≡ Some part
  pub may : b.is_open ≡ true
  pub unknown : is_unknown part ≡ true
  pub opened : opened_by b connection ≡ Some variable
  pub stands : IsAt b.network number (Output (operand.Variable variable))

abbrev pub IsConnected : Body → (number : ℕ) → (connection : List Item) → Type 0
IsConnected b number connection = IsWithPart b number connection ⊎ IsWithOpened b number connection

-- On the left of something stand these connections.
abbrev pub AreConnected : Body → Links → List (List Item) → Type 0
AreConnected b left connections = Each (IsConnected b) (left_of b.network left) connections

-- ---- elements

pub record IsContact (b : Body) (items : List Item) (negated : Bool) (of : Operand) (left : Links) : Type 0 where
  pub no_edge : says_none (codes "edge") items ≡ true
  pub no_storage : says_none (codes "storage") items ≡ true
  pub is_negated : negation items ≡ Some negated
  pub called : IsCalled b.names of (word_in (codes "variable") items)
  pub connected : AreConnected b left (connections_in items)

-- A contact with an edge is closed where its trigger, whose output is this variable, has found the edge.
pub record IsEdgeContact (b : Body) (number : ℕ) (items : List Item) (variable : ℕ) (left : Links) : Type 0 where
  pub falling : Bool
  pub is_edge : falling_in items ≡ Some falling
  pub no_storage : says_none (codes "storage") items ≡ true
  pub is_negated : negation items ≡ Some false
  pub triggered : trigger_of b number ≡ Some variable
  pub connected : AreConnected b left (connections_in items)

-- an inVariable that is a variable or an output of a block
pub record IsOperand (b : Body) (items : List Item) (of : Operand) : Type 0 where
  pub plain : is_plain items ≡ true
  pub called : IsCalled b.names of (word_in (codes "expression") items)

-- What the part with a number is in a network. One with which nothing is connected may be anything that gives no power.
pub data IsElement (b : Body) (number : ℕ) (name : List ℕ) (items : List Item) : Element → Type 0 where
  rail : name ≡ codes "leftPowerRail" → IsElement b number name items Rail
  contact : (negated : Bool) (of : Operand) (left : Links) → name ≡ codes "contact" → IsContact b items negated of left
      → IsElement b number name items (Contact negated of left)
  edge : (variable : ℕ) (left : Links) → name ≡ codes "contact" → IsEdgeContact b number items variable left
      → IsElement b number name items (Contact false (operand.Variable variable) left)
  coil : (left : Links) → name ≡ codes "coil" → AreConnected b left (connections_in items) → IsElement b number name items (Coil left)
  block : (instance : ℕ) (block : StInstance) → name ≡ codes "block" → IsBlock b.names items instance block
      → IsElement b number name items (Output (operand.Output instance))
  trigger : (falling : Bool) (variable : ℕ) → name ≡ codes "block" → IsTriggerBlock b.names items falling variable
      → IsElement b number name items (Output (operand.Variable variable))
  source : (of : Operand) → name ≡ codes "inVariable" → IsOperand b items of → IsElement b number name items (Output of)
  alone : (left : Links) → gives (Coil left) ≡ false → IsElement b number name items (Coil left)

-- The parts, counted from a number on, are the first of these elements of the network.
abbrev pub AreParts : Body → ℕ → List (List ℕ × List Item) → List Element → Type 0
AreParts b number [] elements = Unit {0}
AreParts b number (part ∷ parts) [] = ⊥
AreParts b number (part ∷ parts) (element ∷ elements) = IsElement b number part.0 part.1 element × AreParts b (number + 1) parts elements
