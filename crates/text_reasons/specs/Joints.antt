-- G4: what reaches over the place of a joint. G5: where a vertical link lacks its end.
use Rattle.std.specs.Prelude.{◌++◌, ◌-◌, ◌+◌, ◌==◌, ℕ, zero, suc, Bool, List, [], codes, decimal, if◌then◌else◌, length, take, drop, slice_get, slice_index_or, unwrap_or}
use Rattle.std.specs.List.{prefix_len, slice_split, suffix_len}
use Rattle.diagram_declarations.specs.Text.{begins, is_word_byte}
use Rattle.diagram_program.specs.Bytes.{is_upright, line_feed, space}

-- the line of a text with this number, counted from 1; an empty one where there is none
abbrev pub line_in : List ℕ → ℕ → List ℕ
line_in text zero = []
line_in text (suc n) = unwrap_or (slice_get (slice_split (λ b. b == line_feed) text) n) []

-- the character of a line at a place, counted from 0; a space past its end
abbrev pub byte_at : List ℕ → ℕ → ℕ
byte_at line place = slice_index_or line place space

-- ---- G4

-- how far a word goes on both sides of a place
abbrev pub word_start : List ℕ → ℕ → ℕ
word_start line place = length (take place line) - suffix_len is_word_byte (take place line)

unfoldable pub word_across : List ℕ → ℕ → List ℕ
word_across line place =
    take (length (take place line) - word_start line place + prefix_len is_word_byte (drop place line)) (drop (word_start line place) line)

abbrev pub crossing_text : List ℕ → List ℕ → ℕ → List ℕ
crossing_text word reaches place = word ++ (reaches ++ (decimal place ++ codes "\n"))

-- Where the character at the place of a joint is one of a word, the word reaches over it.
unfoldable pub is_crossed : List ℕ → ℕ → Bool
is_crossed line place = is_word_byte (byte_at line place)

abbrev pub joint_text : List ℕ → ℕ → List ℕ
joint_text line place = if is_crossed line place then crossing_text (word_across line place) (codes " reaches over place ") place else []

-- ---- G5

-- A bar or a `+` is at this place of the line.
unfoldable pub has_end : List ℕ → ℕ → ℕ → Bool
has_end text line place = is_upright (byte_at (line_in text line) place)

abbrev pub missing_text : List ℕ → ℕ → ℕ → List ℕ
missing_text side line place =
    codes "the + " ++ (side ++ (codes " it, line " ++ (decimal line ++ (codes " place " ++ (decimal place ++ codes ", is missing\n")))))

abbrev pub end_text : List ℕ → List ℕ → ℕ → ℕ → List ℕ
end_text text side line place = if has_end text line place then [] else missing_text side line place

-- The line is one of a rung.
unfoldable pub is_in_rung : List ℕ → ℕ → Bool
is_in_rung text line = begins is_upright (line_in text line)

-- The bar of a link is on a line with names; the joints that it joins are on the lines before and after it. The first line of a rung has no
-- row above it.
abbrev pub above_text : List ℕ → ℕ → ℕ → List ℕ
above_text text line place = if is_in_rung text line then end_text text (codes "above") line place else codes "no row is above it\n"

abbrev pub link_text : List ℕ → ℕ → ℕ → List ℕ
link_text text line place = above_text text (line - 1) place ++ end_text text (codes "below") (line + 1) place
