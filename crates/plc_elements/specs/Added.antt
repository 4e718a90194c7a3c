-- Variables behind the declared ones: the output of a trigger for each part that acts by an edge, and one for each output of a block that isn't known.
use Rattle.std.specs.Prelude.{◌≡◌, ℕ, ◌+◌, ◌==◌, Bool, ◌&&◌, List, [], codes, Option, length, option_map, position}
use Rattle.std.specs.Str.{bytes_eq}
use Rattle.xml_document.specs.Items.{Item}
use Rattle.xml_parts.specs.Parts.{items_from}
use Rattle.plc_elements.specs.declared.names.Body.{Body}
use Rattle.plc_elements.specs.Words.{attribute_or}

-- the variable that is the output of the trigger of the part with a number
abbrev pub trigger_of : Body → (number : ℕ) → Option ℕ
trigger_of b number = option_map (λ k. b.names.declared + k) (position (λ n. n == number) b.edges.now)

-- Both connections name one output of one element.
abbrev pub is_same_output : (c d : List Item) → Bool
is_same_output c d = bytes_eq (attribute_or (codes "refLocalId") [] c) (attribute_or (codes "refLocalId") [] d)
    && bytes_eq (attribute_or (codes "formalParameter") [] c) (attribute_or (codes "formalParameter") [] d)

-- the variable that stands for the output of a block that isn't known, with which the connection is
abbrev pub opened_by : Body → (connection : List Item) → Option ℕ
opened_by b connection = option_map (λ k. b.names.declared + (length b.edges.now + k))
    (position (λ place. is_same_output connection (items_from b.document.now place)) b.opened.now)
