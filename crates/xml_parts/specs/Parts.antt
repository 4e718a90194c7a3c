-- The elements of a document. Each is known by the items from behind its name on: its attributes, what is in it, its end, and all that follows.
use Rattle.std.specs.Prelude.{ℕ, zero, suc, List, [], ◌∷◌, Option, Some, None, drop, if◌then◌else◌}
use Rattle.std.specs.Map.{lookup}
use Rattle.std.specs.Str.{bytes_eq}
use Rattle.xml_document.specs.declared.document.Document.{Document}
use Rattle.xml_document.specs.Items.{Item, opens, has, says, closes, bytes_at, items_of}
use Rattle.xml_parts.specs.declared.elements.Part.{Part}

-- the items of a document from a place on
abbrev pub items_from : Document → ℕ → List Item
items_from document place = drop place (items_of document)

-- The elements directly in the one that surrounds so many open ones, each with its name, up to the end of it.
abbrev pub parts_within : (depth : ℕ) → List Item → List (List ℕ × List Item)
parts_within depth [] = []
parts_within zero (closes ∷ items) = []
parts_within (suc depth) (closes ∷ items) = parts_within depth items
parts_within zero (opens name ∷ items) = (name, items) ∷ parts_within 1 items
parts_within (suc depth) (opens name ∷ items) = parts_within (suc (suc depth)) items
parts_within depth (has name value ∷ items) = parts_within depth items
parts_within depth (says text ∷ items) = parts_within depth items

-- the elements directly in an element, each with its name
abbrev pub parts_in : List Item → List (List ℕ × List Item)
parts_in = parts_within zero

-- the first of them that has a name
abbrev pub part_in : (name : List ℕ) → List Item → Option (List Item)
part_in name items = lookup (bytes_eq name) (parts_in items)

-- all of them that have a name
abbrev pub with_name : (name : List ℕ) → List (List ℕ × List Item) → List (List Item)
with_name name [] = []
with_name name (part ∷ parts) = if bytes_eq name part.0 then part.1 ∷ with_name name parts else with_name name parts

abbrev pub all_in : (name : List ℕ) → List Item → List (List Item)
all_in name items = with_name name (parts_in items)

-- the value of an attribute of an element
abbrev pub attribute_in : (name : List ℕ) → List Item → Option (List ℕ)
attribute_in name (has other value ∷ items) = if bytes_eq other name then Some value else attribute_in name items
attribute_in name items = None

-- the characters that an element begins with
abbrev pub text_in : List Item → List ℕ
text_in (has name value ∷ items) = text_in items
text_in (says text ∷ items) = text
text_in items = []

-- a part as it stands in a document
abbrev pub part_of : Document → Part → List ℕ × List Item
part_of document part = (bytes_at document.bytes.items part.name, items_from document part.inside)
