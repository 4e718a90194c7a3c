-- The format of a ClassicLadder project: lines, parts, fields and numbers.
use Rattle.std.specs.Prelude.{ℕ, ◌+◌, ◌-◌, ◌*◌, ◌^◌, ◌==◌, ◌&&◌, ◌||◌, nat_eq, nat_le, nat_lt, not, Bool, false, List, [], ◌∷◌, length, take, drop, codes, Option, Some, None, option_map, if◌then◌else◌}
use Rattle.std.specs.List.{fold, prefix_len, slice_split, starts_with}
use Rattle.std.specs.Char.{is_ascii_digit}

-- The lines of a text end at its line feeds (10).
abbrev pub lines_of : List ℕ → List (List ℕ)
lines_of text = slice_split (λ b. b == 10) text

-- a space (32), a tab (9), or the return (13) before a line feed
abbrev pub is_blank : ℕ → Bool
is_blank b = b == 32 || (b == 9 || b == 13)

-- a text without the blanks at its start
abbrev pub after_blanks : List ℕ → List ℕ
after_blanks text = drop (prefix_len is_blank text) text

abbrev pub are_blank : List ℕ → Bool
are_blank text = length (after_blanks text) == 0

-- what stands before the first such mark, or all where there is none
unfoldable pub before : ℕ → List ℕ → List ℕ
before mark text = take (prefix_len (λ b. not (b == mark)) text) text

-- what stands behind it, or nothing where there is none
unfoldable pub behind : ℕ → List ℕ → List ℕ
behind mark text = drop (prefix_len (λ b. not (b == mark)) text + 1) text

-- the number that digits spell, the first one weighing most; 48 is the digit 0
abbrev pub number_of : List ℕ → ℕ
number_of digits = fold (λ n b. n * 10 + (b - 48)) 0 digits

-- the number that a field is: digits of a number below 2 ^ 32, with blanks on either side
unfoldable pub number_in : List ℕ → Option ℕ
number_in field =
    let text = after_blanks field in
    let count = prefix_len is_ascii_digit text in
    if nat_le 1 count && (are_blank (drop count text) && nat_lt (number_of (take count text)) (2 ^ 32)) then Some (number_of (take count text)) else None

-- the number that a field is, or `-1`, which stands for none
unfoldable pub other_in : List ℕ → Option (Option ℕ)
other_in field =
    if starts_with nat_eq (after_blanks field) (codes "-1") && are_blank (drop 2 (after_blanks field)) then Some None
    else option_map (λ n. Some n) (number_in field)

-- The line is this word, with blanks behind it.
unfoldable pub is_line : List ℕ → List ℕ → Bool
is_line word line = starts_with nat_eq line word && are_blank (drop (length word) line)

-- A line that begins with `#` (35) or `;` (59), and a blank one, has no data.
unfoldable pub is_data : List ℕ → Bool
is_data [] = false
is_data (b ∷ bs) = not (b == 35 || (b == 59 || are_blank (b ∷ bs)))

-- ---- parts

-- A part ends before the first line that begins so.
abbrev pub ends_part : List ℕ → Bool
ends_part line = starts_with nat_eq line (codes "_/FILE")

-- the lines up to the end of the part that they are in
abbrev pub body_of : List (List ℕ) → List (List ℕ)
body_of lines = take (prefix_len (λ l. not (ends_part l)) lines) lines

-- the lines of the first part with a name, nothing where there is none
abbrev pub part_of : List ℕ → List (List ℕ) → List (List ℕ)
part_of head [] = []
part_of head (l ∷ ls) = if is_line head l then body_of ls else part_of head ls

-- what stands behind a key at the start of the first line that has it, nothing where there is none
abbrev pub value_of : List ℕ → List (List ℕ) → List ℕ
value_of key [] = []
value_of key (l ∷ ls) = if starts_with nat_eq l key then drop (length key) l else value_of key ls
