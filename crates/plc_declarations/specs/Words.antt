-- What a variable of PLCopen XML says (IEC 61131-10): its type, its address, and its value at the start.
use Rattle.std.specs.Prelude.{ℕ, Bool, true, false, ◌&&◌, List, [], ◌∷◌, codes, Option, Some, None, option_and_then, unwrap_or}
use Rattle.std.specs.Option.{option_map_or}
use Rattle.std.specs.List.{list_any}
use Rattle.std.specs.Map.{lookup}
use Rattle.std.specs.Str.{bytes_eq}
use Rattle.diagram_declarations.specs.Name.{same_letters}
use Rattle.st_program.specs.declared.symbols.Section.{Section}
use Rattle.st_program.specs.declared.symbols.Section.TheVariants.{Local, Input, Output}
use Rattle.xml_document.specs.Items.{Item}
use Rattle.xml_parts.specs.Parts.{attribute_in, part_in, parts_in}

-- ---- lists of variables

-- the lists of an interface, and the sections of Structured Text that they are
abbrev pub sections : List (List ℕ × Section)
sections =
    (codes "localVars", Local) ∷ (codes "inputVars", Input) ∷ (codes "outputVars", Output) ∷ (codes "externalVars", Local)
    ∷ (codes "tempVars", Local) ∷ []

abbrev pub section_of : (name : List ℕ) → Option Section
section_of name = lookup (bytes_eq name) sections

-- An attribute is left out, or is `false` or 0.
abbrev pub is_unset : (name : List ℕ) → List Item → Bool
is_unset name items = option_map_or (λ value. list_any (bytes_eq value) (codes "false" ∷ codes "0" ∷ [])) (attribute_in name items) true

-- Its variables can be written, and begin anew.
abbrev pub is_plain : List Item → Bool
is_plain items = is_unset (codes "constant") items && is_unset (codes "retain") items

-- ---- types

abbrev pub first_of : {X : Type 0} → List X → Option X
first_of [] = None
first_of (x ∷ xs) = Some x

-- the element that is the type of a variable, with its name
abbrev pub type_in : List Item → Option (List ℕ × List Item)
type_in items = option_and_then (λ inside. first_of (parts_in inside)) (part_in (codes "type") items)

-- ---- addresses and values

abbrev pub some_word : List ℕ → Option (List ℕ)
some_word [] = None
some_word (b ∷ bs) = Some (b ∷ bs)

-- the address, where there is one that isn't empty
abbrev pub address_in : List Item → Option (List ℕ)
address_in items = option_and_then some_word (attribute_in (codes "address") items)

abbrev pub simple_value : List Item → Option (List ℕ)
simple_value items = option_and_then (λ value. option_and_then (attribute_in (codes "value")) (part_in (codes "simpleValue") value)) (part_in (codes "initialValue") items)

abbrev pub values : List (List ℕ × Bool)
values = (codes "TRUE", true) ∷ (codes "1", true) ∷ (codes "FALSE", false) ∷ (codes "0", false) ∷ []

-- the value at the start, OFF where there is none; None where it is something else
abbrev pub initial_in : List Item → Option Bool
initial_in items = lookup (same_letters (unwrap_or (simple_value items) (codes "FALSE"))) values
