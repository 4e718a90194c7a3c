-- What a browser shows of a page: the characters that stand outside of tags.
use Rattle.std.specs.Prelude.{◌≡◌, ℕ, ◌==◌, Bool, true, false, not, if◌then◌else◌, List, [], ◌∷◌}
use Rattle.std.specs.List.{All}
use Rattle.diagram_declarations.specs.Decls.{Declared}
use Rattle.scan_cycle.specs.declared.seen.Mark.{Mark}
use Rattle.text_drawing.specs.Page.{drawn_line, escaped_line}

-- A text without its tags, each from `<` (60) to `>` (62). inside: of one.
unfoldable pub untagged : Bool → List ℕ → List ℕ
untagged inside [] = []
untagged true (b ∷ bs) = untagged (not (b == 62)) bs
untagged false (b ∷ bs) = if b == 60 then untagged true bs else b ∷ untagged false bs

-- Without its tags, a line of a rung is the line of the text, escaped: what is copied from the page is the drawing.
abbrev pub KeepsCharacters : List Mark → ℕ → ℕ → List ℕ → Type 0
KeepsCharacters marks rung line text = untagged false (drawn_line marks rung line text) ≡ escaped_line text

-- Notes have titles in them as they are: a title is the same escaped.
abbrev pub IsPlain : List ℕ → Type 0
IsPlain text = escaped_line text ≡ text

abbrev pub HasPlainTitles : Declared → Type 0
HasPlainTitles declared = All (λ v. IsPlain v.title) declared.vars × All (λ i. IsPlain i.title) declared.instances
