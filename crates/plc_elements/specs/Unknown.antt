-- What of a body is left out where it may be open: blocks that aren't known, and what nothing of the program reads.
use Rattle.std.specs.Prelude.{ℕ, Bool, not, ◌&&◌, ◌||◌, List, [], codes, nat_lt, length}
use Rattle.std.specs.Option.{option_map_or}
use Rattle.std.specs.List.{list_all, list_any}
use Rattle.std.specs.Str.{bytes_eq}
use Rattle.diagram_declarations.specs.Name.{is_name_byte, same_letters}
use Rattle.st_words.specs.Places.{spelled}
use Rattle.xml_document.specs.Items.{Item}
use Rattle.plc_declarations.specs.Types.{is_known_type}
use Rattle.xml_parts.specs.Parts.{all_in, part_in}
use Rattle.plc_elements.specs.declared.names.Body.{Body}
use Rattle.plc_elements.specs.declared.names.Names.{Names}
use Rattle.plc_elements.specs.Words.{attribute_or, is_empty, word_in}

-- what a block may write beside its outputs
abbrev pub both_ways : List Item → List (List Item)
both_ways items = option_map_or (all_in (codes "variable")) (part_in (codes "inOutVariables") items) []

-- The part is a block of a type that isn't known, which writes nothing but its outputs.
abbrev pub is_unknown : List ℕ × List Item → Bool
is_unknown part = bytes_eq part.0 (codes "block") && (not (is_known_type (attribute_or (codes "typeName") [] part.1)) && is_empty (both_ways part.1))

-- Something of the program has the name.
abbrev pub has_name : Names → (word : List ℕ) → Bool
has_name names word = list_any (λ x. same_letters word (spelled names.text.now x.name)) names.variables.now
    || list_any (λ x. same_letters word (spelled names.text.now x.name)) names.instances.now

-- The word is a name, of nothing that the program has.
abbrev pub is_foreign : Names → (word : List ℕ) → Bool
is_foreign names word = nat_lt 0 (length word) && (list_all is_name_byte word && not (has_name names word))

-- The part writes a variable that the program doesn't have.
abbrev pub writes_foreign : Names → List ℕ × List Item → Bool
writes_foreign names part = bytes_eq part.0 (codes "outVariable") && is_foreign names (word_in (codes "expression") part.1)

-- The part is left out: where a body may be open, blocks that aren't known, and what writes variables that the program doesn't have.
abbrev pub is_left_out : Body → List ℕ × List Item → Bool
is_left_out b part = b.is_open && (is_unknown part || writes_foreign b.names part)
