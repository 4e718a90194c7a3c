-- The line that the reader finds for a comment that never ends is the one on which the pieces of the text have it.
use Rattle.std.proofs.Common.{◌≡◌, ◌↔◌, ℕ, ◌+◌, ◌⊎◌, inl, inr, Bool, true, false, cond, ◌&&◌, ◌==◌, List, [], ◌∷◌, ◌++◌, flat_map, Option, Some, None, refl, sym, ap, ◌∙◌, append-nil, arith}
use Rattle.std.proofs.lemmas.Bool.{eqb-true, false≢true, or_parts}
use Rattle.std.proofs.lemmas.List.Sums.{sum_by-cons, sum_by-append}
use Rattle.diagram_declarations.specs.Text.{begins_with, closes}
use Rattle.diagram_program.specs.Bytes.{line_feed, is_upright}
use Rattle.diagram_page.specs.Lines.{Piece, Plain, RungLine, Comment, OpenComment, LineComment, spelling, IsRestOfLine, MayStand, ArePieces, line_feeds, IsUnclosed}
use Rattle.diagram_page.specs.ReadLines.{after_plain, is_opening, is_closing, unclosed_from, unclosed_line}
use Rattle.diagram_page.specs.declared.lines.Inside.{Inside}
use Rattle.diagram_page.specs.declared.lines.Inside.TheVariants as inside
use Rattle.diagram_page.proofs.CutLaws.{inside_at, goes_on, rest_of_line, rung_start, plain_next}

-- The line on which a comment begins that never ends, found piece by piece, where the first piece begins on this line.
abbrev unclosed_in : ℕ → List Piece → Option ℕ
unclosed_in line [] = None
unclosed_in line (Plain byte ∷ ps) = unclosed_in (cond (byte == line_feed) (line + 1) line) ps
unclosed_in line (RungLine bytes ∷ ps) = unclosed_in line ps
unclosed_in line (Comment inside ∷ ps) = unclosed_in (line + line_feeds inside) ps
unclosed_in line (OpenComment inside ∷ ps) = Some line
unclosed_in line (LineComment inside ∷ ps) = unclosed_in line ps

-- the number of the line behind a byte
abbrev behind : ℕ → ℕ → ℕ
behind line b = cond (b == line_feed) (line + 1) line

counted : (line b : ℕ) (bs : List ℕ) → behind line b + line_feeds bs ≡ line + line_feeds (b ∷ bs)
counted line b bs =
    let more : line_feeds (b ∷ bs) ≡ cond (b == line_feed) 1 0 + line_feeds bs = sum_by-cons (λ x. cond (x == line_feed) 1 0) b bs in
    let here : behind line b ≡ line + cond (b == line_feed) 1 0
    = elim (b == line_feed) as (λ t. cond t (line + 1) line ≡ line + cond t 1 0) [ true ↦ refl | false ↦ omega arith ] in
    omega (arith, more, here)

comment_step : (b : ℕ) (bs : List ℕ) (line : ℕ) (since : Option ℕ) → (b == 42 && begins_with 41 bs) ≡ false
    → unclosed_from inside.Block line since (b ∷ bs) ≡ unclosed_from inside.Block (behind line b) since bs
comment_step b bs line since h =
    let next : Bool → Inside = λ t. cond t inside.Closing inside.Block in
    ap (λ t. unclosed_from (next t) (behind line b) (cond (is_opening (next t)) (Some line) (cond (is_closing (next t)) None since)) bs) h

line_step : (i : Inside) (b : ℕ) (bs : List ℕ) (line : ℕ) → (b == line_feed) ≡ false → (i ≡ inside.LineComment) ⊎ (i ≡ inside.RungLine)
    → unclosed_from i line None (b ∷ bs) ≡ unclosed_from i line None bs
line_step i b bs line h (inl is) =
    let next : Bool → Inside = λ t. cond t inside.LineStart inside.LineComment in
    rw is (ap (λ t. unclosed_from (next t) (cond t (line + 1) line) (cond (is_opening (next t)) (Some line) (cond (is_closing (next t)) None None)) bs) h)
line_step i b bs line h (inr is) =
    let next : Bool → Inside = λ t. cond t inside.LineStart inside.RungLine in
    rw is (ap (λ t. unclosed_from (next t) (cond t (line + 1) line) (cond (is_opening (next t)) (Some line) (cond (is_closing (next t)) None None)) bs) h)

comment_ends : (bytes after : List ℕ) (line : ℕ) (since : Option ℕ) → closes bytes ≡ false
    → unclosed_from inside.Block line since ((bytes ++ (42 ∷ 41 ∷ [])) ++ after) ≡ unclosed_from inside.Plain (line + line_feeds bytes) None after
comment_ends [] after line since h = let same : line ≡ line + 0 = omega arith in ap (λ n. unclosed_from inside.Plain n None after) same
comment_ends (b ∷ bs) after line since h =
    let parts = or_parts (b == 42 && begins_with 41 bs) (closes bs) h in
    comment_step b ((bs ++ (42 ∷ 41 ∷ [])) ++ after) line since (goes_on b bs after parts.0)
    ∙ comment_ends bs after (behind line b) since parts.1
    ∙ ap (λ n. unclosed_from inside.Plain n None after) (counted line b bs)

comment_stays : (bytes : List ℕ) (line : ℕ) (since : Option ℕ) → closes bytes ≡ false → unclosed_from inside.Block line since bytes ≡ since
comment_stays [] line since h = refl
comment_stays (b ∷ bs) line since h =
    let parts = or_parts (b == 42 && begins_with 41 bs) (closes bs) h in
    comment_step b bs line since parts.0 ∙ comment_stays bs (behind line b) since parts.1

line_over : (after : List ℕ) (line : ℕ) → (after ≡ []) ⊎ (begins_with line_feed after ≡ true)
    → (unclosed_from inside.LineComment line None after ≡ unclosed_from inside.Plain line None after)
    × (unclosed_from inside.RungLine line None after ≡ unclosed_from inside.Plain line None after)
line_over [] line end = (refl, refl)
line_over (b ∷ bs) line (inl e) = absurd cc
line_over (b ∷ bs) line (inr e) = let lf : b ≡ line_feed = eqb-true b line_feed e in rw lf (refl, refl)

line_comment_over : (bytes after : List ℕ) (line : ℕ) → IsRestOfLine bytes after
    → unclosed_from inside.LineComment line None (bytes ++ after) ≡ unclosed_from inside.Plain line None after
line_comment_over [] after line h = (line_over after line h.1).0
line_comment_over (b ∷ bs) after line h =
    let rest = rest_of_line b bs after h in
    line_step inside.LineComment b (bs ++ after) line rest.0 (inl refl) ∙ line_comment_over bs after line rest.1

rung_over : (bytes after : List ℕ) (line : ℕ) → IsRestOfLine bytes after
    → unclosed_from inside.RungLine line None (bytes ++ after) ≡ unclosed_from inside.Plain line None after
rung_over [] after line h = (line_over after line h.1).1
rung_over (b ∷ bs) after line h =
    let rest = rest_of_line b bs after h in
    line_step inside.RungLine b (bs ++ after) line rest.0 (inr refl) ∙ rung_over bs after line rest.1

plain_over : (start : Bool) (b : ℕ) (after : List ℕ) (line : ℕ) → MayStand start (Plain b) after
    → unclosed_from (inside_at start) line None (b ∷ after) ≡ unclosed_from (inside_at (b == line_feed)) (behind line b) None after
plain_over start b after line h =
    ap (λ i. unclosed_from i (behind line b) (cond (is_opening i) (Some line) (cond (is_closing i) None None)) after) (plain_next start b after h)
    ∙ elim (b == line_feed) as (λ t. unclosed_from (inside_at t) (behind line b) (cond (is_opening (inside_at t)) (Some line) (cond (is_closing (inside_at t)) None None)) after
    ≡ unclosed_from (inside_at t) (behind line b) None after) [ true ↦ refl | false ↦ refl ]

rung_opened : (b : ℕ) (bs : List ℕ) (line : ℕ) → is_upright b ≡ true → (b == line_feed) ≡ false
    → unclosed_from inside.LineStart line None (b ∷ bs) ≡ unclosed_from inside.RungLine line None bs
rung_opened b bs line starts other =
    let next : Bool → Inside = λ t. cond t inside.RungLine (after_plain b bs) in
    ap (λ t. unclosed_from (next t) (behind line b) (cond (is_opening (next t)) (Some line) (cond (is_closing (next t)) None None)) bs) starts
    ∙ ap (λ t. unclosed_from inside.RungLine (cond t (line + 1) line) None bs) other

comment_opened : (start : Bool) (bytes : List ℕ) (line : ℕ)
    → unclosed_from (inside_at start) line None (40 ∷ 42 ∷ bytes) ≡ unclosed_from inside.Block line (Some line) bytes
comment_opened true bytes line = refl
comment_opened false bytes line = refl

line_comment_opened : (start : Bool) (bytes : List ℕ) (line : ℕ)
    → unclosed_from (inside_at start) line None (47 ∷ 47 ∷ bytes) ≡ unclosed_from inside.LineComment line None bytes
line_comment_opened true bytes line = refl
line_comment_opened false bytes line = refl

unclosed_from_is : (start : Bool) (ps : List Piece) (text : List ℕ) (line : ℕ) → ArePieces start ps text
    → unclosed_from (inside_at start) line None text ≡ unclosed_in line ps
unclosed_from_is start [] text line h = ap (unclosed_from (inside_at start) line None) h
unclosed_from_is start (Plain b ∷ ps) text line h =
    ap (unclosed_from (inside_at start) line None) h.1
    ∙ plain_over start b h.0 line h.2
    ∙ unclosed_from_is (b == line_feed) ps h.0 (behind line b) h.3
unclosed_from_is start (RungLine [] ∷ ps) text line h = absurd (false≢true h.2.2)
unclosed_from_is start (RungLine (b ∷ bs) ∷ ps) text line h =
    let rest = rest_of_line b bs h.0 h.2.0 in
    let kind = rung_start b h.2.2 in
    ap (unclosed_from (inside_at start) line None) h.1
    ∙ ap (λ s. unclosed_from (inside_at s) line None (b ∷ (bs ++ h.0))) h.2.1
    ∙ rung_opened b (bs ++ h.0) line h.2.2 kind.0
    ∙ rung_over bs h.0 line rest.1
    ∙ unclosed_from_is false ps h.0 line h.3
unclosed_from_is start (Comment bytes ∷ ps) text line h =
    ap (unclosed_from (inside_at start) line None) h.1
    ∙ comment_opened start ((bytes ++ (42 ∷ 41 ∷ [])) ++ h.0) line
    ∙ comment_ends bytes h.0 line (Some line) h.2
    ∙ unclosed_from_is false ps h.0 (line + line_feeds bytes) h.3
unclosed_from_is start (OpenComment bytes ∷ ps) text line h =
    ap (unclosed_from (inside_at start) line None) h.1
    ∙ comment_opened start (bytes ++ h.0) line
    ∙ ap (unclosed_from inside.Block line (Some line)) (ap (λ z. bytes ++ z) h.2.1 ∙ append-nil bytes)
    ∙ comment_stays bytes line (Some line) h.2.0
unclosed_from_is start (LineComment bytes ∷ ps) text line h =
    ap (unclosed_from (inside_at start) line None) h.1
    ∙ line_comment_opened start (bytes ++ h.0) line
    ∙ line_comment_over bytes h.0 line h.2
    ∙ unclosed_from_is false ps h.0 line h.3

-- ---- where that is

line_feeds-cons : (b : ℕ) (bs : List ℕ) → line_feeds (b ∷ bs) ≡ cond (b == line_feed) 1 0 + line_feeds bs
line_feeds-cons b bs = sum_by-cons (λ x. cond (x == line_feed) 1 0) b bs

line_feeds-append : (xs ys : List ℕ) → line_feeds (xs ++ ys) ≡ line_feeds xs + line_feeds ys
line_feeds-append xs ys = sum_by-append (λ x. cond (x == line_feed) 1 0) xs ys

no_line_feeds : (bytes after : List ℕ) → IsRestOfLine bytes after → line_feeds bytes ≡ 0
no_line_feeds [] after h = refl
no_line_feeds (b ∷ bs) after h =
    let rest = rest_of_line b bs after h in
    let first : line_feeds (b ∷ bs) ≡ cond false 1 0 + line_feeds bs = line_feeds-cons b bs ∙ ap (λ t. cond t 1 0 + line_feeds bs) rest.0 in
    omega (arith, first, no_line_feeds bs after rest.1)

in_comment : (bytes : List ℕ) → line_feeds (spelling (Comment bytes)) ≡ line_feeds bytes
in_comment bytes =
    let one = line_feeds-cons 40 (42 ∷ (bytes ++ (42 ∷ 41 ∷ []))) in
    let two = line_feeds-cons 42 (bytes ++ (42 ∷ 41 ∷ [])) in
    omega (arith, one, two, line_feeds-append bytes (42 ∷ 41 ∷ []))

in_line_comment : (bytes after : List ℕ) → IsRestOfLine bytes after → line_feeds (spelling (LineComment bytes)) ≡ 0
in_line_comment bytes after h = omega (arith, line_feeds-cons 47 (47 ∷ bytes), line_feeds-cons 47 bytes, no_line_feeds bytes after h)

-- the same from this line on
abbrev From : ℕ → List Piece → ℕ → Type 0
From line ps n =
    (before : List Piece) × (inside : List ℕ) × (ps ≡ before ++ OpenComment inside ∷ []) × (n ≡ line + line_feeds (flat_map spelling before))

abbrev IsClosed : Piece → Type 0
IsClosed p = (inside : List ℕ) → p ≡ OpenComment inside → ⊥

-- behind a piece that is no open comment
past : (p : Piece) (ps : List Piece) (line later n : ℕ) → IsClosed p → later ≡ line + line_feeds (spelling p) → From later ps n ↔ From line (p ∷ ps) n
past p ps line later n closed moved = (there, back) where
  there : From later ps n → From line (p ∷ ps) n
  there h =
      let more = line_feeds-append (spelling p) (flat_map spelling h.0) in
      (p ∷ h.0, h.1, ap (λ z. p ∷ z) h.2, omega (arith, h.3, moved, more))

  back : From line (p ∷ ps) n → From later ps n
  back ([], inside, cut, count) = absurd (closed inside (cc))
  back (q ∷ before, inside, cut, count) =
      let same : p ≡ q = cc in
      let rest : ps ≡ before ++ OpenComment inside ∷ [] = cc in
      let more = line_feeds-append (spelling p) (flat_map spelling before) in
      let all : n ≡ line + line_feeds (spelling p ++ flat_map spelling before) = rw same count in
      (before, inside, rest, omega (arith, all, moved, more))

not_empty : (before : List Piece) (p : Piece) → [] ≡ before ++ p ∷ [] → ⊥
not_empty [] p e = absurd cc
not_empty (q ∷ before) p e = absurd cc

no_more : (start : Bool) (ps : List Piece) (text : List ℕ) → text ≡ [] → ArePieces start ps text → ps ≡ []
no_more start [] text none h = refl
no_more start (Plain b ∷ ps) text none h = let e : [] ≡ b ∷ h.0 = sym none ∙ h.1 in absurd cc
no_more start (RungLine [] ∷ ps) text none h = absurd (false≢true h.2.2)
no_more start (RungLine (b ∷ bs) ∷ ps) text none h = let e : [] ≡ b ∷ (bs ++ h.0) = sym none ∙ h.1 in absurd cc
no_more start (Comment bytes ∷ ps) text none h = let e : [] ≡ 40 ∷ 42 ∷ ((bytes ++ (42 ∷ 41 ∷ [])) ++ h.0) = sym none ∙ h.1 in absurd cc
no_more start (OpenComment bytes ∷ ps) text none h = let e : [] ≡ 40 ∷ 42 ∷ (bytes ++ h.0) = sym none ∙ h.1 in absurd cc
no_more start (LineComment bytes ∷ ps) text none h = let e : [] ≡ 47 ∷ 47 ∷ (bytes ++ h.0) = sym none ∙ h.1 in absurd cc

last_open : (inside : List ℕ) (ps : List Piece) (line n : ℕ) → ps ≡ [] → (Some line ≡ Some n) ↔ From line (OpenComment inside ∷ ps) n
last_open inside ps line n none = (there, back) where
  there : Some line ≡ Some n → From line (OpenComment inside ∷ ps) n
  there e = let same : line ≡ n = cc in ([], inside, ap (λ z. OpenComment inside ∷ z) none, omega (arith, same))

  back : From line (OpenComment inside ∷ ps) n → Some line ≡ Some n
  back ([], other, cut, count) = let same : line ≡ n = omega (arith, count) in ap Some same
  back (q ∷ before, other, cut, count) =
      let rest : ps ≡ before ++ OpenComment other ∷ [] = cc in
      absurd (not_empty before (OpenComment other) (sym none ∙ rest))

through : {A B C : Type 0} → A ↔ B → B ↔ C → A ↔ C
through f g = (λ a. g.0 (f.0 a), λ c. f.1 (g.1 c))

tells : (start : Bool) (ps : List Piece) (text : List ℕ) (line n : ℕ) → ArePieces start ps text → (unclosed_in line ps ≡ Some n) ↔ From line ps n
tells start [] text line n h = (λ e. absurd cc, λ f. absurd (not_empty f.0 (OpenComment f.1) f.2))
tells start (Plain b ∷ ps) text line n h =
    let moved : behind line b ≡ line + line_feeds (b ∷ []) = omega (arith, counted line b []) in
    through (tells (b == line_feed) ps h.0 (behind line b) n h.3) (past (Plain b) ps line (behind line b) n (λ i e. absurd cc) moved)
tells start (RungLine bytes ∷ ps) text line n h =
    let moved : line ≡ line + line_feeds bytes = omega (arith, no_line_feeds bytes h.0 h.2.0) in
    through (tells false ps h.0 line n h.3) (past (RungLine bytes) ps line line n (λ i e. absurd cc) moved)
tells start (Comment bytes ∷ ps) text line n h =
    let moved : line + line_feeds bytes ≡ line + line_feeds (spelling (Comment bytes)) = omega (arith, in_comment bytes) in
    through (tells false ps h.0 (line + line_feeds bytes) n h.3) (past (Comment bytes) ps line (line + line_feeds bytes) n (λ i e. absurd cc) moved)
tells start (OpenComment bytes ∷ ps) text line n h = last_open bytes ps line n (no_more false ps h.0 h.2.1 h.3)
tells start (LineComment bytes ∷ ps) text line n h =
    let moved : line ≡ line + line_feeds (spelling (LineComment bytes)) = omega (arith, in_line_comment bytes h.0 h.2) in
    through (tells false ps h.0 line n h.3) (past (LineComment bytes) ps line line n (λ i e. absurd cc) moved)

pub unclosed_is : (ps : List Piece) (text : List ℕ) → ArePieces false ps text → (line : ℕ) → (unclosed_line text ≡ Some line) ↔ IsUnclosed ps line
unclosed_is ps text h line =
    let same : unclosed_line text ≡ unclosed_in 0 ps = unclosed_from_is false ps text 0 h in
    through (λ e. sym same ∙ e, λ e. same ∙ e) (through (tells false ps text 0 line h)
    (λ f. (f.0, f.1, f.2, omega (arith, f.3)), λ f. (f.0, f.1, f.2, omega (arith, f.3))))
