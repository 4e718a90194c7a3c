-- What the interface of a program in PLCopen XML declares, as a program in Structured Text declares it.
use Rattle.std.specs.Prelude.{◌≡◌, ℕ, Bool, true, false, List, [], ◌∷◌, codes, Option, Some, None, option_map}
use Rattle.diagram_declarations.specs.Kind.{traits_of}
use Rattle.diagram_declarations.specs.Name.{same_letters}
use Rattle.st_words.specs.Places.{spelled}
use Rattle.st_program.specs.declared.program.StInstance.{StInstance}
use Rattle.st_program.specs.declared.symbols.Section.{Section}
use Rattle.st_program.specs.declared.symbols.Sort.TheVariants as sort
use Rattle.st_program.specs.declared.symbols.StVariable.{StVariable}
use Rattle.xml_document.specs.Items.{Item}
use Rattle.xml_parts.specs.Parts.{all_in, attribute_in, parts_in}
use Rattle.plc_declarations.specs.Types.{is_known_type, trigger_sort, trigger_word}
use Rattle.plc_declarations.specs.declared.types.VariableType.{VariableType}
use Rattle.plc_declarations.specs.declared.types.VariableType.TheVariants as type
use Rattle.plc_declarations.specs.Words.{address_in, initial_in, is_plain, section_of, type_in}

-- ---- types

abbrev pub IsBool : List Item → Type 0
IsBool items = (part : List ℕ × List Item) × (type_in items ≡ Some part) × (part.0 ≡ codes "BOOL")

-- The type is a function block of this name.
abbrev pub IsDerived : List Item → (name : List ℕ) → Type 0
IsDerived items name =
    (part : List ℕ × List Item) × (type_in items ≡ Some part) × (part.0 ≡ codes "derived") × (attribute_in (codes "name") part.1 ≡ Some name)

-- The type is neither BOOL nor a function block that a program can have, so that it can't have the variable.
pub record IsOther (items : List Item) : Type 0 where
  pub no_bool : IsBool items → ⊥
  pub no_block : (name : List ℕ) → IsDerived items name → is_known_type name ≡ false

-- what a type is
abbrev pub IsType : List Item → VariableType → Type 0
IsType items type.Bool = IsBool items
IsType items (type.Derived name) = IsDerived items name.now
IsType items type.Other = IsOther items

-- ---- one variable

pub record IsVariable (text : List ℕ) (section : Section) (items : List Item) (x : StVariable) : Type 0 where
  pub is_bool : IsBool items
  pub named : attribute_in (codes "name") items ≡ Some (spelled text x.name)
  pub placed : option_map (spelled text) x.address ≡ address_in items
  pub initial : initial_in items ≡ Some x.initial
  pub listed : x.section ≡ section
  pub sort : x.sort ≡ sort.Bool

pub record IsInstance (text : List ℕ) (items : List Item) (x : StInstance) : Type 0 where
  pub type_name : List ℕ
  pub derived : IsDerived items type_name
  pub kind : same_letters type_name (traits_of x.kind).word ≡ true
  pub named : attribute_in (codes "name") items ≡ Some (spelled text x.name)

-- a trigger, whose output is a variable of the program
pub record IsTrigger (text : List ℕ) (section : Section) (items : List Item) (x : StVariable) : Type 0 where
  pub falling : Bool
  pub type_name : List ℕ
  pub derived : IsDerived items type_name
  pub kind : same_letters type_name (trigger_word falling) ≡ true
  pub named : attribute_in (codes "name") items ≡ Some (spelled text x.name)
  pub placed : option_map (spelled text) x.address ≡ address_in items
  pub initial : x.initial ≡ false
  pub listed : x.section ≡ section
  pub sort : x.sort ≡ trigger_sort falling

-- ---- all variables

-- A variable of a list declares what comes before the others: a BOOL or a trigger a variable, a function block an instance, and any other nothing.
pub data DeclareOne (text : List ℕ) (section : Section) (items : List Item) (xs others : List StVariable) (is more : List StInstance) : Type 0 where
  variable : (x : StVariable) → xs ≡ x ∷ others → is ≡ more → IsVariable text section items x → DeclareOne text section items xs others is more
  trigger : (x : StVariable) → xs ≡ x ∷ others → is ≡ more → IsTrigger text section items x → DeclareOne text section items xs others is more
  block : (i : StInstance) → xs ≡ others → is ≡ i ∷ more → IsInstance text items i → DeclareOne text section items xs others is more
  left_out : xs ≡ others → is ≡ more → IsOther items → DeclareOne text section items xs others is more

-- The variables of a list do so, one after the other.
abbrev pub Declare : (text : List ℕ) → Section → List (List Item) → (xs others : List StVariable) → (is more : List StInstance) → Type 0
Declare text section [] xs others is more = (xs ≡ others) × (is ≡ more)
Declare text section (items ∷ rest) xs others is more =
    (after : List StVariable) × (behind : List StInstance) × DeclareOne text section items xs after is behind
    × Declare text section rest after others behind more

-- A part of an interface is a list of variables, and they do so, or it declares nothing.
pub data DeclarePart (text : List ℕ) (part : List ℕ × List Item) (xs others : List StVariable) (is more : List StInstance) : Type 0 where
  listed : (section : Section) → section_of part.0 ≡ Some section → is_plain part.1 ≡ true
      → Declare text section (all_in (codes "variable") part.1) xs others is more → DeclarePart text part xs others is more
  passed : section_of part.0 ≡ None → xs ≡ others → is ≡ more → DeclarePart text part xs others is more

-- The parts of an interface do so, one after the other.
abbrev pub DeclareAll : (text : List ℕ) → List (List ℕ × List Item) → (xs others : List StVariable) → (is more : List StInstance) → Type 0
DeclareAll text [] xs others is more = (xs ≡ others) × (is ≡ more)
DeclareAll text (part ∷ rest) xs others is more =
    (after : List StVariable) × (behind : List StInstance) × DeclarePart text part xs after is behind × DeclareAll text rest after others behind more

-- The interface, where there is one, declares these variables and instances, and no others are declared.
abbrev pub IsInterface : (text : List ℕ) → Option (List Item) → List StVariable → List StInstance → Type 0
IsInterface text (Some items) xs is = DeclareAll text (parts_in items) xs [] is []
IsInterface text None xs is = (xs ≡ []) × (is ≡ [])
