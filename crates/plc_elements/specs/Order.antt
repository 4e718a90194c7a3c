-- The order in which the parts of a body act: by their execution numbers, if all have one, labels or not, or else from top to bottom and from left to right,
-- and as they stand in the document where that decides nothing.
use Rattle.std.specs.Prelude.{◌≡◌, ℕ, ◌+◌, Bool, true, false, not, ◌&&◌, ◌||◌, ◌==◌, if◌then◌else◌, List, [], ◌∷◌, codes, ◌^◌, nat_lt, length}
use Rattle.std.specs.Option.{option_map_or}
use Rattle.std.specs.List.{list_all, list_any}
use Rattle.std.specs.Char.{is_ascii_digit}
use Rattle.std.specs.Str.{bytes_eq}
use Rattle.diagram_declarations.specs.Duration.{number_of}
use Rattle.xml_document.specs.Items.{Item}
use Rattle.xml_parts.specs.Parts.{part_in}
use Rattle.plc_elements.specs.declared.names.Body.{Body}
use Rattle.plc_elements.specs.declared.order.Key.{Key}
use Rattle.plc_elements.specs.Unknown.{is_left_out}
use Rattle.plc_elements.specs.Words.{attribute_or}

-- the parts that act
abbrev pub acting : List (List ℕ)
acting = codes "coil" ∷ codes "outVariable" ∷ codes "block" ∷ codes "jump" ∷ codes "return" ∷ []

abbrev pub acts : List ℕ × List Item → Bool
acts part = list_any (bytes_eq part.0) acting

-- It acts, or is a label, which is a place in the order of those that act.
abbrev pub is_ordered : List ℕ × List Item → Bool
is_ordered part = bytes_eq part.0 (codes "label") || acts part

-- the places of those in the order among the parts, but for those that are left out, counted from a number on
abbrev pub acting_from : Body → ℕ → List (List ℕ × List Item) → List ℕ
acting_from b n [] = []
acting_from b n (part ∷ parts) =
    if is_ordered part && not (is_left_out b part) then n ∷ acting_from b (n + 1) parts else acting_from b (n + 1) parts

-- ---- numbers and places

abbrev pub number_word : List Item → List ℕ
number_word items = attribute_or (codes "executionOrderId") (codes "0") items

abbrev pub place_word : (axis : List ℕ) → List Item → List ℕ
place_word axis items = option_map_or (attribute_or axis (codes "0")) (part_in (codes "position") items) (codes "0")

-- Each part that acts has an execution number that isn't 0.
abbrev pub are_numbered : List (List ℕ × List Item) → Bool
are_numbered parts = list_all (λ part. not (acts part) || not (number_of (number_word part.1) == 0)) parts

-- digits, of a number below 2 ^ 32
abbrev pub is_numeral : List ℕ → Bool
is_numeral word = nat_lt 0 (length word) && (list_all is_ascii_digit word && nat_lt (number_of word) (2 ^ 32))

-- The key of a part at a place among the parts.
pub record IsKey (numbered : Bool) (items : List Item) (place : ℕ) (k : Key) : Type 0 where
  pub numerals : list_all is_numeral (number_word items ∷ place_word (codes "y") items ∷ place_word (codes "x") items ∷ []) ≡ true
  pub by_number : k.number ≡ (if numbered then number_of (number_word items) else 0)
  pub y : k.y ≡ number_of (place_word (codes "y") items)
  pub x : k.x ≡ number_of (place_word (codes "x") items)
  pub at : k.place ≡ place

-- A part acts before another: the first of number, y, x and place that differs is less.
abbrev pub comes_before : Key → Key → Bool
comes_before a b =
    if a.number == b.number then (if a.y == b.y then (if a.x == b.x then nat_lt a.place b.place else nat_lt a.x b.x) else nat_lt a.y b.y)
    else nat_lt a.number b.number
