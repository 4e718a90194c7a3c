-- Where a line of a text begins, and whether it begins in a comment.
use Rattle.std.specs.Prelude.{ℕ, zero, suc, Bool, true, false, ◌&&◌, ◌==◌, List, [], ◌∷◌, if◌then◌else◌}
use Rattle.diagram_declarations.specs.Text.{begins_with}
use Rattle.diagram_program.specs.Bytes.{line_feed}
use Rattle.text_reasons.specs.declared.outside.Within.{Within}
use Rattle.text_reasons.specs.declared.outside.Within.TheVariants as within

-- What the byte after this one belongs to. A comment is `(*` (40, 42) to the first `*)` (42, 41), or `//` (47) to the end of the line.
abbrev pub next_within : Within → ℕ → List ℕ → Within
next_within within.Code b after = if b == 40 && begins_with 42 after then within.Opening else (if b == 47 && begins_with 47 after then within.LineComment else within.Code)
next_within within.Opening b after = within.Comment
next_within within.Comment b after = if b == 42 && begins_with 41 after then within.Closing else within.Comment
next_within within.Closing b after = within.Code
next_within within.LineComment b after = if b == line_feed then within.Code else within.LineComment

abbrev pub is_code : Within → Bool
is_code w = elim w [ within.Code ↦ true | _ ↦ false ]

-- so many lines less, after a byte
abbrev pub lines_after : ℕ → ℕ → ℕ
lines_after b zero = zero
lines_after b (suc n) = if b == line_feed then n else suc n

-- Behind so many line feeds: what the first byte belongs to, and the text from there on.
abbrev pub behind_lines : Within → List ℕ → ℕ → Within × List ℕ
behind_lines w text zero = (w, text)
behind_lines w [] (suc n) = (w, [])
behind_lines w (b ∷ bs) (suc n) = behind_lines (next_within w b bs) bs (lines_after b (suc n))
