-- The declared name that is nearest to a word: the one that the fewest letters make of it, put in, left out or replaced (Levenshtein), whatever
-- their case.
use Rattle.std.specs.Prelude.{◌++◌, ◌&&◌, ◌+◌, ◌/◌, ℕ, List, [], Bool, true, false, not, Option, None, Some, codes, decimal, if◌then◌else◌, length, map, nat_eq, nat_le, option_map, position, slice_get, slice_index_or}
use Rattle.std.specs.Char.{to_ascii_lowercase}
use Rattle.std.specs.List.{list_all, range_with_len}
use Rattle.std.specs.Option.{option_or}
use Rattle.strsim.specs.Edits.{levenshtein_row}
use Rattle.diagram_declarations.specs.Decls.{Declared, is_input, names_of}
use Rattle.text_names.specs.declared.meant.TheConstants.{FAR}
use Rattle.text_names.specs.declared.meant.Wanted.{Wanted}
use Rattle.text_names.specs.declared.meant.Wanted.TheVariants as wanted

-- How many letters have to be put in, left out or replaced.
abbrev pub distance : List ℕ → List ℕ → ℕ
distance word name = levenshtein_row nat_eq (map to_ascii_lowercase word) (map to_ascii_lowercase name) (length (map to_ascii_lowercase name))

-- the name with a number: variables come first, then instances
abbrev pub name_at : Declared → ℕ → List ℕ
name_at decls n = slice_index_or (names_of decls) n []

-- the name is that of what is wanted
abbrev pub is_sought : Declared → Wanted → ℕ → Bool
is_sought decls wanted.Written n = elim (slice_get decls.vars n) [ None ↦ false | Some v ↦ not (is_input v) ]
is_sought decls wanted.Input n = elim (slice_get decls.vars n) [ None ↦ false | Some v ↦ is_input v ]
is_sought decls wanted.Variable n = elim (slice_get decls.vars n) [ None ↦ false | Some v ↦ true ]
is_sought decls wanted.Any n = true

-- How far a word is from a name; a name that isn't sought is far from all.
abbrev pub far_from : Declared → Wanted → List ℕ → ℕ → ℕ
far_from decls wanted word n = if is_sought decls wanted n then distance word (name_at decls n) else FAR

-- the place of the first of the least of these numbers, where that isn't above the limit
abbrev pub first_near : ℕ → List ℕ → Option ℕ
first_near most ds = position (λ d. nat_le d most && list_all (λ e. nat_le d e) ds) ds

-- The number of the name of what is wanted that is nearest to a word. A third of the letters may be others.
abbrev pub nearest_of : Declared → Wanted → List ℕ → Option ℕ
nearest_of decls wanted word = first_near ((length word + 1) / 3) (map (far_from decls wanted word) (range_with_len 0 (length (names_of decls))))

-- Where none of what is wanted is near, any variable will do.
abbrev pub wider : Wanted → Wanted
wider wanted.Any = wanted.Any
wider other = wanted.Variable

abbrev pub nearest : Declared → Wanted → List ℕ → Option ℕ
nearest decls wanted word = option_or (nearest_of decls wanted word) (nearest_of decls (wider wanted) word)

-- ---- what is said

abbrev pub told_name : Declared → Option ℕ → Option (List ℕ)
told_name decls number = option_map (name_at decls) number

-- `"Moter" isn't declared; did you mean Motor?`
abbrev pub unknown_text : List ℕ → Option (List ℕ) → List ℕ
unknown_text word None = codes "\"" ++ (word ++ codes "\" isn't declared\n")
unknown_text word (Some name) = codes "\"" ++ (word ++ (codes "\" isn't declared; did you mean " ++ (name ++ codes "?\n")))

-- `"Motor" is no input`
abbrev pub no_input_text : List ℕ → List ℕ
no_input_text word = codes "\"" ++ (word ++ codes "\" is no input\n")

-- A record of a state is of another name than what the program has there.
abbrev pub other_text : ℕ → List ℕ → List ℕ → List ℕ
other_text number found name =
    codes "the state is of another program: its record " ++ (decimal number ++ (codes " is of " ++ (found ++ (codes ", where this program has " ++ (name ++ codes "\n")))))
