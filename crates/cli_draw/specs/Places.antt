-- Places of a text: the line, the column, and the word that begins there. None is the end of the text.
use Rattle.std.specs.Prelude.{◌+◌, ◌==◌, ◌||◌, ℕ, Bool, List, [], ◌∷◌, Option, Some, None, codes, count_by, drop, if◌then◌else◌, length, max, min, nat_le, nat_lt, not, reverse, take}
use Rattle.std.specs.List.{prefix_len, take_while}
use Rattle.diagram_program.specs.declared.geometry.TheConstants.{CELL}
use Rattle.st_words.specs.Words.{is_in_line, is_word_byte}
use Rattle.text_reasons.specs.Bytes.{goes_on}
use Rattle.text_reasons.specs.Reasons.{marks_text, near}
use Rattle.text_reasons.specs.declared.quote.Marks.{Marks}
use Rattle.text_reasons.specs.declared.quote.TheConstants.{WIDEST}
use Rattle.cli_draw.specs.declared.place.TheConstants.{LONGEST}

-- Private: what is before a place.
abbrev pub before : List ℕ → Option ℕ → List ℕ
before text (Some at) = take at text
before text None = text

-- Private: what is from a place on.
abbrev pub from : List ℕ → Option ℕ → List ℕ
from text (Some at) = drop at text
from text None = []

-- The number of the line, from 1; 10 is the line feed, which ends a line.
abbrev pub line_number : List ℕ → Option ℕ → ℕ
line_number text at = 1 + count_by (λ b. b == 10) (before text at)

-- Private: how many characters are before a place, back to the start of its line; a byte that goes on with a character is none.
abbrev pub column : List ℕ → Option ℕ → ℕ
column text at = count_by (λ b. not (goes_on b)) (take_while is_in_line (reverse (before text at)))

-- What moves a terminal's cursor or changes its colours.
abbrev pub is_control : ℕ → Bool
is_control b = nat_lt b 32 || b == 127

-- Private: the letters, digits and `_ # % .` that begin a text, as many as are shown, or else its first byte; a question mark for a control
-- character.
abbrev pub first_word : List ℕ → List ℕ
first_word [] = []
first_word (b ∷ bs) = if is_control b then codes "?" else take (max 1 (min LONGEST (prefix_len is_word_byte (b ∷ bs)))) (b ∷ bs)

-- The word at a place; at the end of the text there is none.
abbrev pub word_at : List ℕ → Option ℕ → List ℕ
word_at text at = first_word (from text at)

-- The marks under that word, as many as a cell of a drawing is wide at most, or one where there is no word; none beyond the width of a drawing.
abbrev pub marks_at : List ℕ → Option ℕ → Option Marks
marks_at text at =
    if nat_le (column text at) WIDEST then Some (record { indent = column text at; count = max 1 (min CELL (length (word_at text at))) }) else None

-- The line of a place, with these marks under it, between the one before it and the one behind it.
abbrev pub lines_near : List ℕ → Option ℕ → List ℕ
lines_near text at = near text (line_number text at) (marks_text (marks_at text at))
