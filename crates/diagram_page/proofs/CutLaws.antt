-- What the reader makes of a text is what the pieces of the text say, whatever list of pieces it is.
use Rattle.std.proofs.Common.{◌≡◌, ℕ, ◌⊎◌, inl, inr, Bool, true, false, not, cond, if◌then◌else◌, ◌&&◌, ◌||◌, ◌==◌, List, [], ◌∷◌, ◌++◌, map, flat_map, refl, sym, ap, ◌∙◌, append_assoc, append-nil}
use Rattle.std.specs.List.{list_all, slice_split}
use Rattle.std.proofs.lemmas.Bool.{eqb-true, and_parts, not-true, false≢true, or_parts}
use Rattle.std.proofs.lemmas.List.{map-append}
use Rattle.diagram_declarations.specs.Text.{begins_with, closes}
use Rattle.diagram_program.specs.Bytes.{space, line_feed, plus, bar, is_upright}
use Rattle.diagram_page.specs.Lines.{Piece, Plain, RungLine, Comment, OpenComment, LineComment, IsRestOfLine, MayStand, ArePieces, shown, line_ends, lines_in}
use Rattle.diagram_page.specs.ReadLines.{after_plain, next_inside, is_shown, shown_byte, blanked_from, lines_of}
use Rattle.diagram_page.specs.declared.lines.Inside.{Inside}
use Rattle.diagram_page.specs.declared.lines.Inside.TheVariants as inside

-- a comment as it counts
abbrev as_spaces : List ℕ → List ℕ
as_spaces bytes = map (λ b. if b == line_feed then line_feed else space) bytes

-- what a piece stands in
abbrev pub inside_at : Bool → Inside
inside_at true = inside.LineStart
inside_at false = inside.Plain

pub front_stays : (byte other : ℕ) (bytes rest : List ℕ) → (other == byte) ≡ false → begins_with byte (bytes ++ (other ∷ rest)) ≡ begins_with byte bytes
front_stays byte other [] rest h = h
front_stays byte other (b ∷ bs) rest h = refl

either : {A : Type 0} (b : Bool) (x : A) → cond b x x ≡ x
either true x = refl
either false x = refl

-- inside a comment that is closed the next `*)` is its end
pub goes_on : (b : ℕ) (bs after : List ℕ) → (b == 42 && begins_with 41 bs) ≡ false → (b == 42 && begins_with 41 ((bs ++ (42 ∷ 41 ∷ [])) ++ after)) ≡ false
goes_on b bs after h =
    let front : begins_with 41 ((bs ++ (42 ∷ 41 ∷ [])) ++ after) ≡ begins_with 41 bs
    = ap (begins_with 41) (append_assoc bs (42 ∷ 41 ∷ []) after) ∙ front_stays 41 42 bs (41 ∷ after) refl in
    ap (λ t. b == 42 && t) front ∙ h

pub rest_of_line : (b : ℕ) (bs after : List ℕ) → IsRestOfLine (b ∷ bs) after → ((b == line_feed) ≡ false) × IsRestOfLine bs after
rest_of_line b bs after h =
    let parts = and_parts (not (b == line_feed)) (list_all (λ x. not (x == line_feed)) bs) h.0 in
    let other : (b == line_feed) ≡ false = not-true (b == line_feed) parts.0 in
    let rest : IsRestOfLine bs after = (parts.1, h.1) in
    (other, rest)

-- `|` and `+` end no line
pub rung_start : (b : ℕ) → is_upright b ≡ true → ((b == line_feed) ≡ false) × ((b == 13) ≡ false)
rung_start b h =
    elim (b == bar) as (λ t. (b == bar) ≡ t → (t || b == plus) ≡ true → ((b == line_feed) ≡ false) × ((b == 13) ≡ false)) [
      | true ↦ λ e _. let is : b ≡ bar = eqb-true b bar e in rw is (refl, refl)
      | false ↦ λ _ e. let is : b ≡ plus = eqb-true b plus e in rw is (refl, refl)
    ] refl h

-- a byte of a gap line, outside comments
pub plain_next : (start : Bool) (b : ℕ) (after : List ℕ) → MayStand start (Plain b) after → next_inside (inside_at start) b after ≡ inside_at (b == line_feed)
plain_next start b after h =
    let both = or_parts (b == 40 && begins_with 42 after) (b == 47 && begins_with 47 after) h.1 in
    let plain : after_plain b after ≡ inside_at (b == line_feed)
    = elim (b == line_feed) as (λ t. cond t inside.LineStart (cond (b == 40 && begins_with 42 after) inside.Opening (cond (b == 47 && begins_with 47 after) inside.LineComment inside.Plain)) ≡ inside_at t) [
      | true ↦ refl
      | false ↦ rw (both.0, both.1) refl
    ] in
    elim start as (λ s. (s && is_upright b) ≡ false → next_inside (inside_at s) b after ≡ inside_at (b == line_feed)) [
      | true ↦ λ other. rw other plain
      | false ↦ λ _. plain
    ] h.0

-- ---- what is shown

spaces_stay : (bytes rest : List ℕ) → line_ends (as_spaces bytes ++ rest) ≡ as_spaces bytes ++ line_ends rest
spaces_stay [] rest = refl
spaces_stay (b ∷ bs) rest =
    elim (b == line_feed) as (λ t. line_ends (cond t line_feed space ∷ (as_spaces bs ++ rest)) ≡ cond t line_feed space ∷ (as_spaces bs ++ line_ends rest)) [
      | true ↦ ap (λ z. line_feed ∷ z) (spaces_stay bs rest)
      | false ↦ ap (λ z. space ∷ z) (spaces_stay bs rest)
    ]

comment_shown : (bytes after : List ℕ) → closes bytes ≡ false
    → blanked_from inside.Block ((bytes ++ (42 ∷ 41 ∷ [])) ++ after) ≡ as_spaces bytes ++ (space ∷ space ∷ blanked_from inside.Plain after)
comment_shown [] after h = refl
comment_shown (b ∷ bs) after h =
    let parts = or_parts (b == 42 && begins_with 41 bs) (closes bs) h in
    rw (goes_on b bs after parts.0, either (b == 13 && begins_with line_feed ((bs ++ (42 ∷ 41 ∷ [])) ++ after)) space)
    (ap (λ z. cond (b == line_feed) line_feed space ∷ z) (comment_shown bs after parts.1))

open_comment_shown : (bytes : List ℕ) → closes bytes ≡ false → blanked_from inside.Block bytes ≡ as_spaces bytes
open_comment_shown [] h = refl
open_comment_shown (b ∷ bs) h =
    let parts = or_parts (b == 42 && begins_with 41 bs) (closes bs) h in
    rw (parts.0, either (b == 13 && begins_with line_feed bs) space) (ap (λ z. cond (b == line_feed) line_feed space ∷ z) (open_comment_shown bs parts.1))

-- behind the rest of a line it makes no difference what the line was
line_over : (after : List ℕ) → (after ≡ []) ⊎ (begins_with line_feed after ≡ true)
    → (blanked_from inside.LineComment after ≡ blanked_from inside.Plain after) × (blanked_from inside.RungLine after ≡ blanked_from inside.Plain after)
line_over [] end = (refl, refl)
line_over (b ∷ bs) (inl e) = absurd cc
line_over (b ∷ bs) (inr e) = let lf : b ≡ line_feed = eqb-true b line_feed e in rw lf (refl, refl)

line_comment_shown : (bytes after : List ℕ) → IsRestOfLine bytes after → blanked_from inside.LineComment (bytes ++ after) ≡ as_spaces bytes ++ blanked_from inside.Plain after
line_comment_shown [] after h = (line_over after h.1).0
line_comment_shown (b ∷ bs) after h =
    let rest = rest_of_line b bs after h in
    rw (rest.0, either (b == 13 && begins_with line_feed (bs ++ after)) space) (ap (λ z. space ∷ z) (line_comment_shown bs after rest.1))

prefix_same : (bytes after rest : List ℕ) → begins_with line_feed after ≡ begins_with line_feed rest → begins_with line_feed (bytes ++ after) ≡ begins_with line_feed (bytes ++ rest)
prefix_same [] after rest h = h
prefix_same (b ∷ bs) after rest h = refl

rung_shown : (bytes after rest : List ℕ) → IsRestOfLine bytes after → begins_with line_feed after ≡ begins_with line_feed rest
    → blanked_from inside.Plain after ≡ line_ends rest → blanked_from inside.RungLine (bytes ++ after) ≡ line_ends (bytes ++ rest)
rung_shown [] after rest h front same = (line_over after h.1).1 ∙ same
rung_shown (b ∷ bs) after rest h front same =
    let line = rest_of_line b bs after h in
    rw (line.0, prefix_same bs after rest front)
    (ap (λ z. cond (b == 13 && begins_with line_feed (bs ++ rest)) space b ∷ z) (rung_shown bs after rest line.1 front same))

front_is : (start : Bool) (ps : List Piece) (text : List ℕ) → ArePieces start ps text → begins_with line_feed text ≡ begins_with line_feed (flat_map shown ps)
front_is start [] text h = ap (begins_with line_feed) h
front_is start (Plain b ∷ ps) text h = ap (begins_with line_feed) h.1
front_is start (RungLine [] ∷ ps) text h = absurd (false≢true h.2.2)
front_is start (RungLine (b ∷ bs) ∷ ps) text h = ap (begins_with line_feed) h.1
front_is start (Comment bytes ∷ ps) text h = ap (begins_with line_feed) h.1
front_is start (OpenComment bytes ∷ ps) text h = ap (begins_with line_feed) h.1
front_is start (LineComment bytes ∷ ps) text h = ap (begins_with line_feed) h.1

plain_byte : (start : Bool) (b : ℕ) (after : List ℕ) → next_inside (inside_at start) b after ≡ inside_at (b == line_feed)
    → shown_byte (inside_at start) b after ≡ cond (b == 13 && begins_with line_feed after) space b
plain_byte start b after next =
    let cr : Bool = b == 13 && begins_with line_feed after in
    ap (λ i. cond (b == line_feed) line_feed (cond cr space (cond (is_shown (inside_at start) && is_shown i) b space))) next
    ∙ elim (b == line_feed) as (λ t. (b == line_feed) ≡ t → cond t line_feed (cond cr space (cond (is_shown (inside_at start) && is_shown (inside_at t)) b space)) ≡ cond cr space b) [
      | true ↦ λ e. let is : b ≡ line_feed = eqb-true b line_feed e in rw is refl
      | false ↦ λ _. elim start as (λ s. cond cr space (cond (is_shown (inside_at s) && is_shown (inside_at false)) b space) ≡ cond cr space b) [ true ↦ refl | false ↦ refl ]
    ] refl

plain_shown : (start : Bool) (b : ℕ) (after : List ℕ) → MayStand start (Plain b) after
    → blanked_from (inside_at start) (b ∷ after) ≡ cond (b == 13 && begins_with line_feed after) space b ∷ blanked_from (inside_at (b == line_feed)) after
plain_shown start b after h =
    let next = plain_next start b after h in
    let is : shown_byte (inside_at start) b after ≡ cond (b == 13 && begins_with line_feed after) space b = plain_byte start b after next in
    ap (λ z. z ∷ blanked_from (next_inside (inside_at start) b after) after) is
    ∙ ap (λ i. cond (b == 13 && begins_with line_feed after) space b ∷ blanked_from i after) next

comment_opened : (start : Bool) (bytes : List ℕ)
    → blanked_from (inside_at start) (40 ∷ 42 ∷ bytes) ≡ space ∷ space ∷ blanked_from inside.Block bytes
comment_opened true bytes = refl
comment_opened false bytes = refl

line_comment_opened : (start : Bool) (bytes : List ℕ)
    → blanked_from (inside_at start) (47 ∷ 47 ∷ bytes) ≡ space ∷ space ∷ blanked_from inside.LineComment bytes
line_comment_opened true bytes = refl
line_comment_opened false bytes = refl

pub shown_is : (start : Bool) (ps : List Piece) (text : List ℕ) → ArePieces start ps text → blanked_from (inside_at start) text ≡ line_ends (flat_map shown ps)
shown_is start [] text h = ap (blanked_from (inside_at start)) h
shown_is start (Plain b ∷ ps) text h =
    ap (blanked_from (inside_at start)) h.1
    ∙ plain_shown start b h.0 h.2
    ∙ ap (λ t. cond (b == 13 && t) space b ∷ blanked_from (inside_at (b == line_feed)) h.0) (front_is (b == line_feed) ps h.0 h.3)
    ∙ ap (λ z. cond (b == 13 && begins_with line_feed (flat_map shown ps)) space b ∷ z) (shown_is (b == line_feed) ps h.0 h.3)
shown_is start (RungLine [] ∷ ps) text h = absurd (false≢true h.2.2)
shown_is start (RungLine (b ∷ bs) ∷ ps) text h =
    let line = rest_of_line b bs h.0 h.2.0 in
    let kind = rung_start b h.2.2 in
    let rest = rung_shown bs h.0 (flat_map shown ps) line.1 (front_is false ps h.0 h.3) (shown_is false ps h.0 h.3) in
    ap (blanked_from (inside_at start)) h.1 ∙ rw (h.2.1, h.2.2, kind.0, kind.1) (ap (λ z. b ∷ z) rest)
shown_is start (Comment bytes ∷ ps) text h =
    let flat : List ℕ = flat_map shown ps in
    let two : List ℕ = 42 ∷ 41 ∷ [] in
    let spaces : as_spaces (bytes ++ two) ≡ as_spaces bytes ++ (space ∷ space ∷ []) = map-append _ bytes two in
    ap (blanked_from (inside_at start)) h.1
    ∙ comment_opened start ((bytes ++ two) ++ h.0)
    ∙ ap (λ z. space ∷ space ∷ z) (comment_shown bytes h.0 h.2)
    ∙ ap (λ z. space ∷ space ∷ (as_spaces bytes ++ (space ∷ space ∷ z))) (shown_is false ps h.0 h.3)
    ∙ ap (λ z. space ∷ space ∷ z) (sym (append_assoc (as_spaces bytes) (space ∷ space ∷ []) (line_ends flat)))
    ∙ ap (λ z. space ∷ space ∷ (z ++ line_ends flat)) (sym spaces)
    ∙ sym (spaces_stay (40 ∷ 42 ∷ (bytes ++ two)) flat)
shown_is start (OpenComment bytes ∷ ps) text h =
    let flat : List ℕ = flat_map shown ps in
    let whole : bytes ++ h.0 ≡ bytes = ap (λ z. bytes ++ z) h.2.1 ∙ append-nil bytes in
    let none : line_ends flat ≡ [] = sym (shown_is false ps h.0 h.3) ∙ ap (blanked_from inside.Plain) h.2.1 in
    ap (blanked_from (inside_at start)) h.1
    ∙ comment_opened start (bytes ++ h.0)
    ∙ ap (λ z. space ∷ space ∷ blanked_from inside.Block z) whole
    ∙ ap (λ z. space ∷ space ∷ z) (open_comment_shown bytes h.2.0 ∙ sym (append-nil (as_spaces bytes)))
    ∙ ap (λ z. space ∷ space ∷ (as_spaces bytes ++ z)) (sym none)
    ∙ sym (spaces_stay (40 ∷ 42 ∷ bytes) flat)
shown_is start (LineComment bytes ∷ ps) text h =
    let flat : List ℕ = flat_map shown ps in
    ap (blanked_from (inside_at start)) h.1
    ∙ line_comment_opened start (bytes ++ h.0)
    ∙ ap (λ z. space ∷ space ∷ z) (line_comment_shown bytes h.0 h.2)
    ∙ ap (λ z. space ∷ space ∷ (as_spaces bytes ++ z)) (shown_is false ps h.0 h.3)
    ∙ sym (spaces_stay (47 ∷ 47 ∷ bytes) flat)

pub lines_are : (ps : List Piece) (text : List ℕ) → ArePieces false ps text → lines_of text ≡ lines_in ps
lines_are ps text h = ap (λ z. slice_split (λ b. b == line_feed) z) (shown_is false ps text h)
