-- V1: the byte of a line that may stand in comments only, and what is said of it.
use Rattle.std.specs.Prelude.{◌++◌, ◌-◌, ◌+◌, ◌==◌, ◌&&◌, ◌||◌, ℕ, Bool, not, nat_le, List, [], ◌∷◌, Option, Some, None, codes, count_by, decimal, if◌then◌else◌, length, min, take, drop}
use Rattle.std.specs.List.{prefix_len}
use Rattle.diagram_declarations.specs.Text.{begins, begins_with}
use Rattle.diagram_program.specs.Bytes.{is_upright, line_feed, space}
use Rattle.text_reasons.specs.Outside.{is_code, next_within}
use Rattle.text_reasons.specs.declared.outside.Within.{Within}
use Rattle.text_reasons.specs.declared.outside.Within.TheVariants as within

-- Outside comments there are printed bytes, spaces (32 to 126), line ends, by LF or CR LF (13, 10), and but for the lines of a rung tabs (9).
abbrev pub is_bad : Bool → ℕ → List ℕ → Bool
is_bad in_rung b after = not ((nat_le space b && nat_le b 126) || ((b == 9 && not in_rung) || (b == 13 && begins_with line_feed after)))

-- The text from the first byte on that is in no comment and is bad, before the end of the line.
abbrev pub bad_from : Bool → Within → List ℕ → Option (List ℕ)
bad_from in_rung w [] = None
bad_from in_rung w (b ∷ bs) =
    if b == line_feed then None
    else (if is_code w && is_bad in_rung b bs then Some (b ∷ bs)
    else bad_from in_rung (next_within w b bs) bs)

-- from the start of a line on; one that begins in no comment with a bar or `+` is a line of a rung
abbrev pub bad_in : Within × List ℕ → Option (List ℕ)
bad_in start = bad_from (is_code start.0 && begins is_upright start.1) start.0 start.1

-- A byte from 128 to 191 goes on with a character that a byte from 192 on begins (UTF-8), which has at most four.
abbrev pub goes_on : ℕ → Bool
goes_on b = nat_le 128 b && nat_le b 191

unfoldable pub character_len : List ℕ → ℕ
character_len [] = 0
character_len (b ∷ bs) = if nat_le 192 b then 1 + min (prefix_len goes_on bs) 3 else 1

-- The place of a byte: how many characters are before it, the text from the line's start on and from the byte on being these.
abbrev pub place_in : List ℕ → List ℕ → ℕ
place_in start at = count_by (λ b. not (goes_on b)) (take (length start - length at) start)

-- What is said of it: a byte order mark (239, 187, 191), a tab, another character, or a byte that is no character.
abbrev pub begins_mark : List ℕ → Bool
begins_mark text = begins_with 239 text && (begins_with 187 (drop 1 text) && begins_with 191 (drop 2 text))

abbrev pub character_words : List ℕ → ℕ → List ℕ
character_words at len =
    if nat_le len 1 then codes "a byte that is no character of ASCII\n"
    else codes "\"" ++ (take len at ++ codes "\"; names have ASCII letters\n")

unfoldable pub begins_tab : List ℕ → Bool
begins_tab text = begins_with 9 text

abbrev pub tab_words : List ℕ → List ℕ
tab_words at = if begins_tab at then codes "a tab; a line of a rung has spaces\n" else character_words at (character_len at)

abbrev pub bad_words : List ℕ → List ℕ
bad_words at = if begins_mark at then codes "a byte order mark; save the file as UTF-8 without BOM\n" else tab_words at

abbrev pub place_text : ℕ → List ℕ
place_text place = codes "place " ++ (decimal place ++ codes " has ")

abbrev pub bad_text : List ℕ → Option (List ℕ) → List ℕ
bad_text start None = []
bad_text start (Some at) = place_text (place_in start at) ++ bad_words at
