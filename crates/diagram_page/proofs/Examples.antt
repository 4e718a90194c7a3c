-- Little drawings, computed.
use Rattle.std.proofs.Common.{◌≡◌, ℕ, List, [], ◌∷◌, ◌++◌, codes, Some, None, refl, true, false, inl}
use Rattle.std.proofs.lemmas.Bool.{true≢false}
use Rattle.diagram_page.specs.Picture.{Lines, text_at, joint, vertical}
use Rattle.diagram_page.specs.Texts.{cell_text}
use Rattle.diagram_page.specs.Lines.{Piece, Plain, RungLine, Comment, OpenComment, MayStand, ArePieces, lines_in, IsUnclosed}
use Rattle.diagram_page.specs.ReadLines.{lines_of, parts_of, unclosed_line}
use Rattle.diagram_page.specs.Gap.{label_in}
use Rattle.diagram_page.specs.ReadForm.{form_at, marked_at}
use Rattle.diagram_page.specs.declared.form.Form.TheVariants.{Contact, Coil}
use Rattle.diagram_program.specs.declared.mode.Mode.TheVariants as mode
use Rattle.diagram_program.specs.declared.mode.CoilMode.TheVariants as coil

-- ---- forms

negated : form_at (codes "----|/|----") ≡ Some (Contact mode.Negated)
unfolding form_at marked_at
negated = refl

late_coil : form_at (codes "-------( ) ") ≡ Some (Coil coil.Store)
unfolding form_at marked_at
late_coil = refl

mixed_tail : form_at (codes "----| |- - ") ≡ None
unfolding form_at marked_at
mixed_tail = refl

no_dash : form_at (codes "| |--------") ≡ None
unfolding form_at marked_at
no_dash = refl

-- ---- a contact that another one bridges

unfoldable pub bridged : Lines
bridged = codes "|     A           Y" ∷ codes "|----| |----+----( )----" ∷ codes "|     A     |" ∷ codes "|----|/|----+" ∷ []

second_cell : form_at (cell_text bridged 0 1) ≡ Some (Coil coil.Store)
unfolding bridged form_at marked_at text_at
second_cell = refl

branch : joint bridged 1 1 ≡ 43
unfolding bridged
branch = refl

linked : vertical bridged 0 1 ≡ true
unfolding bridged
linked = refl

-- ---- lines

-- a comment over two lines, with a bar in it, and behind it a label; then a rung line, in which nothing is a comment
little : List ℕ
little = codes " (* a" ++ (10 ∷ codes "| b*) D:" ++ (13 ∷ 10 ∷ codes "|-(*"))

little_pieces : List Piece
little_pieces =
    Plain 32 ∷ Comment (codes " a" ++ (10 ∷ codes "| b")) ∷ Plain 32 ∷ Plain 68 ∷ Plain 58 ∷ Plain 13 ∷ Plain 10 ∷ RungLine (codes "|-(*") ∷ []

is_little : ArePieces false little_pieces little
unfolding little little_pieces
is_little =
    let last : ArePieces true (RungLine (codes "|-(*") ∷ []) (codes "|-(*") = ([], refl, ((refl, inl refl), refl, refl), refl) in
    let feed : ArePieces false (Plain 10 ∷ RungLine (codes "|-(*") ∷ []) (10 ∷ codes "|-(*") = (codes "|-(*", refl, (refl, refl), last) in
    (_, refl, (refl, refl), (_, refl, refl, (_, refl, (refl, refl), (_, refl, (refl, refl), (_, refl, (refl, refl), (_, refl, (refl, refl), feed))))))

little_lines : lines_in little_pieces ≡ codes "     " ∷ codes "      D: " ∷ codes "|-(*" ∷ []
unfolding little_pieces
little_lines = refl

read_lines : lines_of little ≡ lines_in little_pieces
unfolding little little_pieces
read_lines = refl

one_rung : parts_of (lines_in little_pieces) ≡ record { from = 0; start = 2; end = 3 } ∷ []
unfolding little_pieces
one_rung = refl

-- `(*)` doesn't end what it begins
never_ends : IsUnclosed (Plain 10 ∷ OpenComment (codes ")") ∷ []) 1
never_ends = (Plain 10 ∷ [], codes ")", refl, refl)

read_unclosed : unclosed_line (10 ∷ codes "(*)") ≡ Some 1
read_unclosed = refl

-- where a comment begins, and where a rung line does, no byte stands alone
no_plain_comment : MayStand false (Plain 40) (codes "*)") → ⊥
no_plain_comment h = true≢false h.1

no_plain_bar : MayStand true (Plain 124) [] → ⊥
no_plain_bar h = true≢false h.0

label : label_in (codes "      D :") ≡ Some (codes "D")
unfolding label_in
label = refl

no_label : label_in (codes "TON:") ≡ None
unfolding label_in
no_label = refl
