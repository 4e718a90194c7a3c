-- Every text is a list of pieces.
use Rattle.std.proofs.Common.{◌≡◌, ℕ, ◌⊎◌, inl, inr, Bool, true, false, ◌&&◌, ◌==◌, List, [], ◌∷◌, ◌++◌, refl, sym, ap, subst, ◌∙◌, append_assoc, append-nil}
use Rattle.std.proofs.lemmas.Bool.{eqb-true, and_parts, false≢true}
use Rattle.diagram_declarations.specs.Text.{begins_with, closes}
use Rattle.diagram_program.specs.Bytes.{line_feed, is_upright}
use Rattle.diagram_page.specs.Lines.{Piece, Plain, RungLine, Comment, OpenComment, LineComment, IsRestOfLine, ArePieces}
use Rattle.diagram_page.specs.declared.lines.Inside.{Inside}
use Rattle.diagram_page.specs.declared.lines.Inside.TheVariants as inside
use Rattle.diagram_page.proofs.CutLaws.{front_stays, rest_of_line, rung_start}

abbrev pub Pieces : Bool → List ℕ → Type 0
Pieces start text = (ps : List Piece) × ArePieces start ps text

-- the rest of a line, and what stands behind it
record InLine (text : List ℕ) : Type 0 where
  pub bytes : List ℕ
  pub after : List ℕ
  pub parts : text ≡ bytes ++ after
  pub line : IsRestOfLine bytes after
  pub pieces : Pieces false after

-- the rest of a comment that ends, and what stands behind it
record Ends (text : List ℕ) : Type 0 where
  pub bytes : List ℕ
  pub after : List ℕ
  pub parts : text ≡ (bytes ++ (42 ∷ 41 ∷ [])) ++ after
  pub first : closes bytes ≡ false
  pub pieces : Pieces false after

abbrev InComment : List ℕ → Type 0
InComment text = Ends text ⊎ (closes text ≡ false)

abbrev PiecesIn : Inside → List ℕ → Type 0
PiecesIn inside.LineStart text = Pieces true text
PiecesIn inside.Plain text = Pieces false text
PiecesIn inside.RungLine text = InLine text
PiecesIn inside.LineComment text = InLine text
PiecesIn inside.Opening text = begins_with 42 text ≡ true → (rest : List ℕ) × (text ≡ 42 ∷ rest) × InComment rest
PiecesIn inside.Block text = InComment text
PiecesIn inside.Closing text = begins_with 41 text ≡ true → (rest : List ℕ) × (text ≡ 41 ∷ rest) × Pieces false rest

-- ---- one piece more

line_end : (bs : List ℕ) → Pieces true bs → InLine (line_feed ∷ bs)
line_end bs ps = record {
  bytes = [];
  after = line_feed ∷ bs;
  parts = refl;
  line = (refl, inr refl);
  pieces = (Plain line_feed ∷ ps.0, (bs, refl, (refl, refl), ps.1));
}

text_end : InLine []
text_end = record { bytes = []; after = []; parts = refl; line = (refl, inl refl); pieces = ([], refl) }

line_more : (b : ℕ) (bs : List ℕ) → (b == line_feed) ≡ false → InLine bs → InLine (b ∷ bs)
line_more b bs other l = record {
  bytes = b ∷ l.bytes;
  after = l.after;
  parts = ap (λ z. b ∷ z) l.parts;
  line = (rw other l.line.0, l.line.1);
  pieces = l.pieces;
}

rung_piece : (b : ℕ) (bs : List ℕ) → is_upright b ≡ true → (b == line_feed) ≡ false → InLine bs → Pieces true (b ∷ bs)
rung_piece b bs starts other l =
    (RungLine (b ∷ l.bytes) ∷ l.pieces.0, (l.after, ap (λ z. b ∷ z) l.parts, ((rw other l.line.0, l.line.1), refl, starts), l.pieces.1))

comment_piece : (start : Bool) (bs : List ℕ) → InComment bs → Pieces start (40 ∷ 42 ∷ bs)
comment_piece start bs (inl c) = (Comment c.bytes ∷ c.pieces.0, (c.after, ap (λ z. 40 ∷ 42 ∷ z) c.parts, c.first, c.pieces.1))
comment_piece start bs (inr none) = (OpenComment bs ∷ [], ([], ap (λ z. 40 ∷ 42 ∷ z) (sym (append-nil bs)), (none, refl), refl))

line_comment_of : (start : Bool) (bs bytes after : List ℕ) → begins_with 47 bs ≡ true → bs ≡ bytes ++ after → IsRestOfLine bytes after → Pieces false after
    → Pieces start (47 ∷ bs)
line_comment_of start bs [] [] slash parts line ps = absurd (false≢true (ap (begins_with 47) (sym parts) ∙ slash))
line_comment_of start bs [] (c ∷ cs) slash parts line ps =
    let front : (c == 47) ≡ true = ap (begins_with 47) (sym parts) ∙ slash in
    let is : c ≡ 47 = eqb-true c 47 front in
    elim line.1 [ inl e ↦ absurd cc | inr e ↦ absurd (false≢true (ap (λ z. z == line_feed) (sym is) ∙ e)) ]
line_comment_of start bs (c ∷ cs) after slash parts line ps =
    let is : c ≡ 47 = eqb-true c 47 (ap (begins_with 47) (sym parts) ∙ slash) in
    let rest = rest_of_line c cs after line in
    let whole : 47 ∷ bs ≡ (47 ∷ 47 ∷ cs) ++ after = ap (λ z. 47 ∷ z) (parts ∙ ap (λ x. x ∷ (cs ++ after)) is) in
    (LineComment cs ∷ ps.0, (after, whole, rest.1, ps.1))

line_comment_piece : (start : Bool) (b : ℕ) (bs : List ℕ) → (b == 47 && begins_with 47 bs) ≡ true → InLine bs → Pieces start (b ∷ bs)
line_comment_piece start b bs h l =
    let both = and_parts (b == 47) (begins_with 47 bs) h in
    let is : 47 ≡ b = sym (eqb-true b 47 both.0) in
    subst (λ z. Pieces start (z ∷ bs)) is (line_comment_of start bs l.bytes l.after both.1 l.parts l.line l.pieces)

block_piece : (start : Bool) (b : ℕ) (bs : List ℕ) → (b == 40 && begins_with 42 bs) ≡ true → PiecesIn inside.Opening bs → Pieces start (b ∷ bs)
block_piece start b bs h opened =
    let both = and_parts (b == 40) (begins_with 42 bs) h in
    let rest = opened both.1 in
    let is : 40 ≡ b = sym (eqb-true b 40 both.0) in
    let whole : 40 ∷ 42 ∷ rest.0 ≡ b ∷ bs = ap (λ z. 40 ∷ z) (sym rest.1) ∙ ap (λ z. z ∷ bs) is in
    subst (λ z. Pieces start z) whole (comment_piece start rest.0 rest.2)

plain_piece : (start : Bool) (b : ℕ) (bs : List ℕ) → (start && is_upright b) ≡ false → ((i : Inside) → PiecesIn i bs) → Pieces start (b ∷ bs)
plain_piece start b bs other all =
    elim (b == 40 && begins_with 42 bs) as (λ t. (b == 40 && begins_with 42 bs) ≡ t → Pieces start (b ∷ bs)) [
      | true ↦ λ h. block_piece start b bs h (all inside.Opening)
      | false ↦ λ no_block. elim (b == 47 && begins_with 47 bs) as (λ t. (b == 47 && begins_with 47 bs) ≡ t → Pieces start (b ∷ bs)) [
        | true ↦ λ h. line_comment_piece start b bs h (all inside.LineComment)
        | false ↦ λ no_line.
            let rest : Pieces (b == line_feed) bs = elim (b == line_feed) as (λ t. Pieces t bs) [ true ↦ all inside.LineStart | false ↦ all inside.Plain ] in
            (Plain b ∷ rest.0, (bs, refl, (other, rw (no_block, no_line) refl), rest.1))
      ] refl
    ] refl

line_step : (b : ℕ) (bs : List ℕ) → Pieces true bs → InLine bs → InLine (b ∷ bs)
line_step b bs ends more =
    elim (b == line_feed) as (λ t. (b == line_feed) ≡ t → InLine (b ∷ bs)) [
      | true ↦ λ e. let is : line_feed ≡ b = sym (eqb-true b line_feed e) in subst (λ z. InLine (z ∷ bs)) is (line_end bs ends)
      | false ↦ λ e. line_more b bs e more
    ] refl

comment_end : (b : ℕ) (bs : List ℕ) → (b == 42 && begins_with 41 bs) ≡ true → PiecesIn inside.Closing bs → InComment (b ∷ bs)
comment_end b bs h closed =
    let both = and_parts (b == 42) (begins_with 41 bs) h in
    let rest = closed both.1 in
    let is : b ≡ 42 = eqb-true b 42 both.0 in
    inl (record {
      bytes = [];
      after = rest.0;
      parts = ap (λ z. z ∷ bs) is ∙ ap (λ z. 42 ∷ z) rest.1;
      first = refl;
      pieces = rest.2;
    })

comment_more : (b : ℕ) (bs : List ℕ) → (b == 42 && begins_with 41 bs) ≡ false → InComment bs → InComment (b ∷ bs)
comment_more b bs h (inr none) = inr (rw (h, none) refl)
comment_more b bs h (inl c) =
    let front : begins_with 41 bs ≡ begins_with 41 c.bytes
    = ap (begins_with 41) (c.parts ∙ append_assoc c.bytes (42 ∷ 41 ∷ []) c.after) ∙ front_stays 41 42 c.bytes (41 ∷ c.after) refl in
    let not_here : (b == 42 && begins_with 41 c.bytes) ≡ false = ap (λ t. b == 42 && t) (sym front) ∙ h in
    inl (record { bytes = b ∷ c.bytes; after = c.after; parts = ap (λ z. b ∷ z) c.parts; first = rw (not_here, c.first) refl; pieces = c.pieces })

-- ---- all pieces

pieces_from : (i : Inside) (text : List ℕ) → PiecesIn i text
pieces_from inside.LineStart [] = ([], refl)
pieces_from inside.Plain [] = ([], refl)
pieces_from inside.RungLine [] = text_end
pieces_from inside.LineComment [] = text_end
pieces_from inside.Opening [] = λ h. absurd (false≢true h)
pieces_from inside.Block [] = inr refl
pieces_from inside.Closing [] = λ h. absurd (false≢true h)
pieces_from inside.LineStart (b ∷ bs) =
    elim (is_upright b) as (λ t. is_upright b ≡ t → Pieces true (b ∷ bs)) [
      | true ↦ λ e. rung_piece b bs e (rung_start b e).0 (pieces_from inside.RungLine bs)
      | false ↦ λ e. plain_piece true b bs e (λ i. pieces_from i bs)
    ] refl
pieces_from inside.Plain (b ∷ bs) = plain_piece false b bs refl (λ i. pieces_from i bs)
pieces_from inside.RungLine (b ∷ bs) = line_step b bs (pieces_from inside.LineStart bs) (pieces_from inside.RungLine bs)
pieces_from inside.LineComment (b ∷ bs) = line_step b bs (pieces_from inside.LineStart bs) (pieces_from inside.LineComment bs)
pieces_from inside.Opening (b ∷ bs) = λ h. let is : b ≡ 42 = eqb-true b 42 h in (bs, ap (λ z. z ∷ bs) is, pieces_from inside.Block bs)
pieces_from inside.Closing (b ∷ bs) = λ h. let is : b ≡ 41 = eqb-true b 41 h in (bs, ap (λ z. z ∷ bs) is, pieces_from inside.Plain bs)
pieces_from inside.Block (b ∷ bs) =
    elim (b == 42 && begins_with 41 bs) as (λ t. (b == 42 && begins_with 41 bs) ≡ t → InComment (b ∷ bs)) [
      | true ↦ λ h. comment_end b bs h (pieces_from inside.Closing bs)
      | false ↦ λ h. comment_more b bs h (pieces_from inside.Block bs)
    ] refl

pub pieces_of : (text : List ℕ) → (ps : List Piece) × ArePieces false ps text
pieces_of text = pieces_from inside.Plain text
