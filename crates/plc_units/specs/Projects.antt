-- The programs of a project in PLCopen XML (IEC 61131-10).
use Rattle.std.specs.Prelude.{◌≡◌, ℕ, Bool, false, if◌then◌else◌, List, [], ◌∷◌, codes, Option, Some, None, option_and_then}
use Rattle.std.specs.Option.{option_map_or}
use Rattle.std.specs.Str.{bytes_eq}
use Rattle.xml_document.specs.Items.{Item, opens}
use Rattle.xml_parts.specs.Parts.{all_in, attribute_in, part_in}

-- what is in the root element, if it is a project
abbrev pub project_in : List Item → Option (List Item)
project_in (opens name ∷ items) = if bytes_eq name (codes "project") then Some items else None
project_in items = None

-- the program organization units of a project
abbrev pub pous_in : List Item → List (List Item)
pous_in items = option_map_or (all_in (codes "pou")) (option_and_then (part_in (codes "pous")) (part_in (codes "types") items)) []

-- An attribute of the unit has this value.
abbrev pub says : (name value : List ℕ) → List Item → Bool
says name value items = option_map_or (bytes_eq value) (attribute_in name items) false

abbrev pub that_say : (name value : List ℕ) → List (List Item) → List (List Item)
that_say name value [] = []
that_say name value (x ∷ xs) = if says name value x then x ∷ that_say name value xs else that_say name value xs

-- The one unit with a name, where one is asked for, or else the one that is a program.
abbrev pub named_so : Option (List ℕ) → List (List Item) → List (List Item)
named_so (Some name) pous = that_say (codes "name") name pous
named_so None pous = that_say (codes "pouType") (codes "program") pous

-- The unit is the one of the document that is asked for; its body is one of ladder diagram.
pub record IsUnit (name : Option (List ℕ)) (document : List Item) (interface : Option (List Item)) (body : List Item) : Type 0 where
  pub project : List Item
  pub unit : List Item
  pub whole : List Item
  pub is_project : project_in document ≡ Some project
  pub only : named_so name (pous_in project) ≡ unit ∷ []
  pub is_interface : part_in (codes "interface") unit ≡ interface
  pub one_body : all_in (codes "body") unit ≡ whole ∷ []
  pub is_ladder : part_in (codes "LD") whole ≡ Some body
