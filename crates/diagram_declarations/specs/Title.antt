-- Titles: lists and traces call a declaration by its name, or by its alias where that is asked for. The alias stands in a comment with
-- nothing else in it, right behind the name: X10 (* magazine-at-home *) AT %IX10 : BOOL;
use Rattle.std.specs.Prelude.{ℕ, Bool, false, ◌&&◌, ◌||◌, ◌==◌, nat_le, List, [], ◌∷◌, length, take, drop, Option, Some, None, if◌then◌else◌}
use Rattle.std.specs.List.{prefix_len, list_all}
use Rattle.std.specs.Char.{is_ascii_alphanumeric}
use Rattle.std.specs.Str.{str_eq_ignore_ascii_case}
use Rattle.diagram_declarations.specs.declared.title.TheConstants.{LONGEST_TITLE}

-- A letter, a digit, or one of `_` (95), `-` (45), `.` (46) and `/` (47).
abbrev pub is_title_byte : ℕ → Bool
is_title_byte b = is_ascii_alphanumeric b || (b == 95 || (b == 45 || (b == 46 || b == 47)))

-- one to 32 of them
abbrev pub is_title : List ℕ → Bool
is_title word = nat_le 1 (length word) && (nat_le (length word) LONGEST_TITLE && list_all is_title_byte word)

-- a space or a tab
abbrev pub is_space : ℕ → Bool
is_space b = b == 32 || b == 9

abbrev pub after_spaces : List ℕ → List ℕ
after_spaces text = drop (prefix_len is_space text) text

-- what follows `(*` at the start of a text
abbrev pub inside_comment : List ℕ → List ℕ
inside_comment (a ∷ b ∷ rest) = if a == 40 && b == 42 then rest else []
inside_comment other = []

-- whether a text begins with `*)`
abbrev pub is_closing : List ℕ → Bool
is_closing (a ∷ b ∷ rest) = a == 42 && b == 41
is_closing other = false

-- the title at the start of a text, where the comment ends behind it
abbrev pub title_inside : List ℕ → Option (List ℕ)
title_inside text =
    if is_closing (after_spaces (drop (prefix_len is_title_byte text) text)) && is_title (take (prefix_len is_title_byte text) text)
    then Some (take (prefix_len is_title_byte text) text) else None

-- the title that a comment with nothing else in it has
abbrev pub alias_behind : List ℕ → Option (List ℕ)
alias_behind text = title_inside (after_spaces (inside_comment (after_spaces text)))

-- The alias of a name, in the text behind it: another word than the name, whatever the case of its letters.
abbrev pub alias_of : List ℕ → List ℕ → Option (List ℕ)
alias_of name behind = elim (alias_behind behind) [ Some alias ↦ if str_eq_ignore_ascii_case name alias then None else Some alias | None ↦ None ]
