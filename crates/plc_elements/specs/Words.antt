-- What the attributes and the parts of an element of PLCopen XML say (IEC 61131-10, LD).
use Rattle.std.specs.Prelude.{ℕ, Bool, true, false, not, ◌&&◌, List, [], ◌∷◌, codes, Option, Some, None, unwrap_or}
use Rattle.std.specs.Option.{option_map_or}
use Rattle.std.specs.Map.{lookup}
use Rattle.std.specs.Str.{bytes_eq}
use Rattle.xml_document.specs.Items.{Item}
use Rattle.xml_parts.specs.Parts.{attribute_in, part_in, text_in, all_in}
use Rattle.network_check.specs.declared.effect.CoilKind.{CoilKind}
use Rattle.network_check.specs.declared.effect.CoilKind.TheVariants.{Plain, Negated, Set, Reset}

-- an attribute, or what it stands for where it is left out
abbrev pub attribute_or : (name default : List ℕ) → List Item → List ℕ
attribute_or name default items = unwrap_or (attribute_in name items) default

-- the characters in the first part with a name
abbrev pub word_in : (name : List ℕ) → List Item → List ℕ
word_in name items = option_map_or text_in (part_in name items) []

-- ---- negated, edge, storage

abbrev pub truths : List (List ℕ × Bool)
truths = (codes "true", true) ∷ (codes "1", true) ∷ (codes "false", false) ∷ (codes "0", false) ∷ []

-- whether it is negated; None where that can't be told
abbrev pub negation : List Item → Option Bool
negation items = lookup (bytes_eq (attribute_or (codes "negated") (codes "false") items)) truths

abbrev pub says_none : (name : List ℕ) → List Item → Bool
says_none name items = bytes_eq (attribute_or name (codes "none") items) (codes "none")

-- It passes power on as it is: it isn't negated, and has no edge and no storage.
abbrev pub is_plain : List Item → Bool
is_plain items = says_none (codes "edge") items && (says_none (codes "storage") items && option_map_or not (negation items) false)

-- the edges, and whether each is the falling one
abbrev pub edges : List (List ℕ × Bool)
edges = (codes "rising", false) ∷ (codes "falling", true) ∷ []

-- whether the edge that it acts by is the falling one; None where it has no edge
abbrev pub falling_in : List Item → Option Bool
falling_in items = lookup (bytes_eq (attribute_or (codes "edge") (codes "none") items)) edges

abbrev pub coil_kinds : (negated : Bool) → List (List ℕ × CoilKind)
coil_kinds true = (codes "none", Negated) ∷ []
coil_kinds false = (codes "none", Plain) ∷ (codes "set", Set) ∷ (codes "reset", Reset) ∷ []

-- the kind of a coil that is negated or not; None where there is no such coil
abbrev pub coil_kind : (negated : Bool) → List Item → Option CoilKind
coil_kind negated items = lookup (bytes_eq (attribute_or (codes "storage") (codes "none") items)) (coil_kinds negated)

-- ---- lists

abbrev pub is_empty : {X : Type 0} → List X → Bool
is_empty [] = true
is_empty (x ∷ xs) = false

-- ---- connections

-- what an element is connected with on its left
abbrev pub connections_in : List Item → List (List Item)
connections_in items = option_map_or (all_in (codes "connection")) (part_in (codes "connectionPointIn") items) []
