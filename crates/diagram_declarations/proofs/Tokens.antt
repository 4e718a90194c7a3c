-- A token is read where it stands in a text, behind a gap, and only there; where none is read a byte may not stand there, or the text ends.
use Rattle.std.proofs.Common.{◌≡◌, ◌⊎◌, inl, inr, Result, Ok, Err, refl, ℕ, ◌<◌, ◌≤◌, true, false, not, ◌==◌, List, [], ◌∷◌, ◌++◌, length, codes, sym, ap, subst, ◌∙◌, arith, append_assoc, ◌&&◌, take, drop, ap₂}
use Rattle.std.specs.List.{list_all}
use Rattle.std.proofs.lemmas.Bool.Decides.{nat_tests}
use Rattle.std.proofs.lemmas.List.{length-append, take-append-drop, length-take}
use Rattle.std.proofs.Math.Seq.{take-append_seam, drop-append_seam}
use Rattle.std.proofs.lemmas.Bool.{eqb-true, and_parts, cond_both}
use Rattle.std.proofs.lemmas.List.Sums.{prefix_len-le-length}
use Rattle.diagram_declarations.specs.declared.fault.Fault.{Fault}
use Rattle.diagram_declarations.specs.declared.text.Within.TheVariants as state
use Rattle.diagram_declarations.specs.declared.text.Within.{Within}
use Rattle.diagram_declarations.specs.declared.fault.VarRule.TheVariants as rule
use Rattle.diagram_declarations.specs.ReadText.{◌>>=◌, skip_from, token_at, unfinished, no_token}
use Rattle.diagram_declarations.specs.Text.{begins_with, token_len, closes, Gap, Nothing, Blank, Comment, LineComment, AreTokens, is_blank, begins_comment, IsUnfinished, is_printed, IsBadByte, IsStray}

-- the value of a step that did not fail
pub bind_ok : {A B : Type 0} (r : Result A Fault) (f : A → Result B Fault) (y : B) → (r >>= f) ≡ Ok y → (x : A) × (r ≡ Ok x) × (f x ≡ Ok y)
bind_ok (Ok x) f y e = (x, refl, e)
bind_ok (Err d) f y e = absurd cc

pub bind_err : {A B : Type 0} (r : Result A Fault) (f : A → Result B Fault) (d : Fault) → (r >>= f) ≡ Err d → (r ≡ Err d) ⊎ ((x : A) × (r ≡ Ok x) × (f x ≡ Err d))
bind_err (Ok x) f d e = inr (x, refl, e)
bind_err (Err g) f d e = inl cc

pub begins_with-append : (byte other : ℕ) (inside rest : List ℕ) → (other == byte) ≡ false → begins_with byte (inside ++ (other ∷ rest)) ≡ begins_with byte inside
begins_with-append byte other [] rest h = h
begins_with-append byte other (b ∷ bs) rest h = refl

block_skipped : (inside after : List ℕ) → closes inside ≡ false → skip_from state.Comment (inside ++ (42 ∷ 41 ∷ after)) ≡ skip_from state.Blanks after
block_skipped [] after h = refl
block_skipped (b ∷ bs) after h = grind (arith, begins_with-append, block_skipped bs after)

line_skipped : (inside after : List ℕ) → list_all (λ b. not (b == 10)) inside ≡ true → (after ≡ []) ⊎ (begins_with 10 after ≡ true) → skip_from state.LineComment (inside ++ after) ≡ skip_from state.Blanks after
line_skipped [] after h end = grind (arith, nat_tests)
line_skipped (b ∷ bs) after h end = grind (arith, line_skipped bs after)

-- where a token stands there is nothing to skip
token_stands : (text : List ℕ) → 0 < token_len text → skip_from state.Blanks text ≡ Ok text
token_stands [] h = grind arith
token_stands (b ∷ bs) h = grind (arith, nat_tests)

pub token_found : (u after : List ℕ) → 0 < length u → token_len (u ++ after) ≡ length u → token_at (u ++ after) ≡ Ok (u, after)
unfolding token_at
token_found u after some len = grind (arith, nat_tests, token_stands, take-append_seam, drop-append_seam)

-- what is skipped makes no difference
gap_skipped : {text rest : List ℕ} → Gap text rest → skip_from state.Blanks text ≡ skip_from state.Blanks rest
gap_skipped Nothing = refl
gap_skipped (Blank blank g) = rw blank (gap_skipped g)
gap_skipped (Comment inside {after} unclosed g) = block_skipped inside after unclosed ∙ gap_skipped g
gap_skipped (LineComment inside {after} one_line end g) = line_skipped inside after one_line end ∙ gap_skipped g

-- the rest ends the text
abbrev pub IsEnd : List ℕ → List ℕ → Type 0
IsEnd text rest = (front : List ℕ) × (text ≡ front ++ rest)

behind : (front text rest : List ℕ) → IsEnd text rest → IsEnd (front ++ text) rest
behind front text rest h = (front ++ h.0, ap (λ z. front ++ z) h.1 ∙ sym (append_assoc front h.0 rest))

gap-end : {text rest : List ℕ} → Gap text rest → IsEnd text rest
gap-end Nothing = ([], refl)
gap-end (Blank {b} {after} {rest} blank g) = behind (b ∷ []) after rest (gap-end g)
gap-end (Comment inside {after} {rest} unclosed g) = behind (codes "(*") _ rest (behind inside _ rest (behind (codes "*)") after rest (gap-end g)))
gap-end (LineComment inside {after} {rest} one_line end g) = behind (codes "//") _ rest (behind inside after rest (gap-end g))

-- the first token of a reading is found, and the others are read after it
pub first_token : (t : List ℕ) (ts : List (List ℕ)) (text rest : List ℕ) → AreTokens (t ∷ ts) text rest
    → (after : List ℕ) × (token_at text ≡ Ok (t, after)) × AreTokens ts after rest × (length after < length text)
unfolding token_at
first_token t ts text rest h =
    let found = token_found t h.1 h.4 (ap token_len (sym h.3) ∙ h.5) in
    (h.1, rw (gap_skipped h.2, h.3) found, h.6, omega (arith, ap length (gap-end h.2).1, length-append {A = ℕ}, ap length h.3, h.4))

pub tokens-end : (ts : List (List ℕ)) (text rest : List ℕ) → AreTokens ts text rest → IsEnd text rest
tokens-end [] text rest h = ([], h)
tokens-end (t ∷ ts) text rest h =
    let gap = gap-end h.2 in
    let more = behind gap.0 h.0 rest (subst (λ z. IsEnd z rest) (sym h.3) (behind t h.1 rest (tokens-end ts h.1 rest h.6))) in
    (more.0, gap.1 ∙ more.1)

pub tokens-shorter : (ts : List (List ℕ)) (text rest : List ℕ) → AreTokens ts text rest → length rest ≤ length text
tokens-shorter ts text rest h = let end = tokens-end ts text rest h in omega (arith, ap length end.1, length-append end.0 rest)

-- inside a block comment, and inside a line comment
pub record EndsComment (text rest : List ℕ) : Type 0 where
  pub inside : List ℕ
  pub after : List ℕ
  pub parts : text ≡ inside ++ (42 ∷ 41 ∷ after)
  pub first : closes inside ≡ false
  pub gap : Gap after rest

pub record EndsLine (text rest : List ℕ) : Type 0 where
  pub inside : List ℕ
  pub after : List ℕ
  pub parts : text ≡ inside ++ after
  pub one_line : list_all (λ b. not (b == 10)) inside ≡ true
  pub end : (after ≡ []) ⊎ (begins_with 10 after ≡ true)
  pub gap : Gap after rest

abbrev pub GapFrom : Within → List ℕ → List ℕ → Type 0
GapFrom state.Blanks text rest = Gap text rest
GapFrom state.Opening text rest = (b : ℕ) × (after : List ℕ) × (text ≡ b ∷ after) × EndsComment after rest
GapFrom state.Comment text rest = EndsComment text rest
GapFrom state.Closing text rest = (b : ℕ) × (after : List ℕ) × (text ≡ b ∷ after) × Gap after rest
GapFrom state.LineComment text rest = EndsLine text rest

pub gap_block : (b : ℕ) (bs rest : List ℕ) → (b == 40 && begins_with 42 bs) ≡ true → GapFrom state.Opening bs rest → Gap (b ∷ bs) rest
gap_block b bs rest h g =
    let block = g.3 in
    let whole : b ∷ bs ≡ 40 ∷ 42 ∷ (block.inside ++ (42 ∷ 41 ∷ block.after)) = grind (arith, nat_tests) in
    subst (λ z. Gap z rest) (sym whole) (Comment block.inside block.first block.gap)

gap_line_at : (bs rest inside after : List ℕ) → begins_with 47 bs ≡ true → bs ≡ inside ++ after → list_all (λ b. not (b == 10)) inside ≡ true
    → (after ≡ []) ⊎ (begins_with 10 after ≡ true) → Gap after rest → Gap (47 ∷ bs) rest
gap_line_at bs rest [] after slash parts one_line end gap = grind arith
gap_line_at bs rest (c ∷ cs) after slash parts one_line end gap =
    let both = and_parts (not (c == 10)) (list_all (λ b. not (b == 10)) cs) one_line in
    let whole : 47 ∷ bs ≡ 47 ∷ 47 ∷ (cs ++ after) = grind (arith, nat_tests) in
    subst (λ z. Gap z rest) (sym whole) (LineComment cs both.1 end gap)

pub gap_line : (b : ℕ) (bs rest : List ℕ) → (b == 47 && begins_with 47 bs) ≡ true → EndsLine bs rest → Gap (b ∷ bs) rest
gap_line b bs rest h line =
    let first : b ≡ 47 = grind (arith, nat_tests) in
    rw first (gap_line_at bs rest line.inside line.after (grind arith) line.parts line.one_line line.end line.gap)

-- where the skipping ends there is neither a blank nor a comment
abbrev pub NoGap : List ℕ → Type 0
NoGap [] = Unit {0}
NoGap (b ∷ bs) = (is_blank b bs ≡ false) × (begins_comment (b ∷ bs) ≡ false)

-- the comment never ends
abbrev pub Never : Within → List ℕ → Type 0
Never state.Opening [] = Unit {0}
Never state.Opening (b ∷ bs) = closes bs ≡ false
Never state.Comment text = closes text ≡ false
Never state.Closing [] = Unit {0}
Never state.Closing (b ∷ bs) = ⊥
Never state.Blanks text = ⊥
Never state.LineComment text = ⊥

-- it never ends, or another one behind it
abbrev pub OpenFrom : Within → List ℕ → Type 0
OpenFrom s text = Never s text ⊎ ((at : List ℕ) × GapFrom s text at × IsUnfinished at)

comment_end : (b : ℕ) (bs at : List ℕ) → (b == 42 && begins_with 41 bs) ≡ true → GapFrom state.Closing bs at → EndsComment (b ∷ bs) at
comment_end b bs at ends g = record { inside = []; after = g.1; parts = grind (arith, nat_tests); first = refl; gap = g.3 }

comment_more : (b : ℕ) (bs at : List ℕ) → (b == 42 && begins_with 41 bs) ≡ false → EndsComment bs at → EndsComment (b ∷ bs) at
comment_more b bs at more g = record { inside = b ∷ g.inside; after = g.after; parts = ap (λ z. b ∷ z) g.parts; first = grind (arith, begins_with-append); gap = g.gap }

line_end : (b : ℕ) (bs at : List ℕ) → (b == 10) ≡ true → Gap bs at → EndsLine (b ∷ bs) at
line_end b bs at ends g = let lf : b ≡ 10 = eqb-true b 10 ends in record { inside = []; after = b ∷ bs; parts = refl; one_line = refl; end = inr ends; gap = Blank (rw lf refl) g }

line_more : (b : ℕ) (bs at : List ℕ) → (b == 10) ≡ false → EndsLine bs at → EndsLine (b ∷ bs) at
line_more b bs at more g =
    record { inside = b ∷ g.inside; after = g.after; parts = ap (λ z. b ∷ z) g.parts; one_line = rw more g.one_line; end = g.end; gap = g.gap }

-- what skipping from here shows
abbrev pub Shows : Within → List ℕ → Result (List ℕ) Fault → Type 0
Shows s text (Ok rest) = GapFrom s text rest × NoGap rest
Shows s text (Err f) = (f ≡ unfinished) × OpenFrom s text

-- one byte before the rest
moves : (s n : Within) (text rest : List ℕ) (r : Result (List ℕ) Fault) → ((at : List ℕ) → GapFrom n rest at → GapFrom s text at)
    → (Never n rest → OpenFrom s text) → Shows n rest r → Shows s text r
moves s n text rest (Ok x) gap open_yet h = (gap x h.0, h.1)
moves s n text rest (Err f) gap open_yet h = (h.0, elim h.1 [ inl never ↦ open_yet never | inr (at, g, u) ↦ inr (at, gap at g, u) ])

never_opened : (b : ℕ) (bs : List ℕ) → (b == 40 && begins_with 42 bs) ≡ true → Never state.Opening bs → OpenFrom state.Blanks (b ∷ bs)
never_opened b [] h never = grind arith
never_opened b (c ∷ cs) h never = inr (b ∷ c ∷ cs, Nothing, grind (arith, nat_tests))

pub shows : (text : List ℕ) (s : Within) → Shows s text (skip_from s text)
shows [] state.Blanks = (Nothing, tt)
shows [] state.LineComment = (record { inside = []; after = []; parts = refl; one_line = refl; end = inl refl; gap = Nothing }, tt)
shows [] state.Opening = (refl, inl tt)
shows [] state.Comment = (refl, inl refl)
shows [] state.Closing = (refl, inl tt)
shows (b ∷ bs) state.Blanks =
    let text : List ℕ = b ∷ bs in
    cond_both (is_blank b bs) _ _ (Shows state.Blanks text) (λ blank.
    moves state.Blanks state.Blanks text bs _ (λ at g. Blank blank g) (λ never. absurd never) (shows bs state.Blanks)) (λ dark.
    cond_both (b == 40 && begins_with 42 bs) _ _ (Shows state.Blanks text) (λ block.
    moves state.Blanks state.Opening text bs _ (λ at g. gap_block b bs at block g) (λ never. never_opened b bs block never) (shows bs state.Opening)) (λ no_block.
    cond_both (b == 47 && begins_with 47 bs) _ _ (Shows state.Blanks text) (λ line.
    moves state.Blanks state.LineComment text bs _ (λ at g. gap_line b bs at line g) (λ never. absurd never) (shows bs state.LineComment))
    (λ no_line. (Nothing, (dark, rw (no_block, no_line) refl)))))
shows (b ∷ bs) state.Opening = moves state.Opening state.Comment (b ∷ bs) bs _ (λ at g. (b, bs, refl, g)) (λ never. inl never) (shows bs state.Comment)
shows (b ∷ bs) state.Closing = moves state.Closing state.Blanks (b ∷ bs) bs _ (λ at g. (b, bs, refl, g)) (λ never. absurd never) (shows bs state.Blanks)
shows (b ∷ bs) state.Comment =
    let text : List ℕ = b ∷ bs in
    cond_both (b == 42 && begins_with 41 bs) _ _ (Shows state.Comment text) (λ end.
    moves state.Comment state.Closing text bs _ (λ at g. comment_end b bs at end g) (λ never. grind arith) (shows bs state.Closing))
    (λ more. moves state.Comment state.Comment text bs _ (λ at g. comment_more b bs at more g) (λ never. inl (rw (more, never) refl)) (shows bs state.Comment))
shows (b ∷ bs) state.LineComment =
    let text : List ℕ = b ∷ bs in
    cond_both (b == 10) _ _ (Shows state.LineComment text) (λ end.
    moves state.LineComment state.Blanks text bs _ (λ at g. line_end b bs at end g) (λ never. absurd never) (shows bs state.Blanks))
    (λ more. moves state.LineComment state.LineComment text bs _ (λ at g. line_more b bs at more g) (λ never. absurd never) (shows bs state.LineComment))

pub skipped : (text rest : List ℕ) → skip_from state.Blanks text ≡ Ok rest → Gap text rest × NoGap rest
skipped text rest h = subst (Shows state.Blanks text) h (shows text state.Blanks)

pub AreTokens-append : (ts us : List (List ℕ)) (a b c : List ℕ) → AreTokens ts a b → AreTokens us b c → AreTokens (ts ++ us) a c
AreTokens-append [] us a b c p q = rw p q
AreTokens-append (t ∷ ts) us a b c p q = (p.0, p.1, p.2, p.3, p.4, p.5, AreTokens-append ts us p.1 b c p.6 q)

begins_some : (byte : ℕ) (bs : List ℕ) → begins_with byte bs ≡ true → 1 ≤ length bs
begins_some byte [] h = cc
begins_some byte (b ∷ bs) h = omega arith

token_len-le : (text : List ℕ) → token_len text ≤ length text
token_len-le [] = omega arith
token_len-le (b ∷ bs) = grind (arith, prefix_len-le-length, begins_some)

-- a token that is found is there
pub token_takes : (text t rest : List ℕ) → token_at text ≡ Ok (t, rest) → AreTokens (t ∷ []) text rest
unfolding token_at
token_takes text t rest h =
    let skip = bind_ok (skip_from state.Blanks text) _ (t, rest) h in
    let n : ℕ = token_len skip.0 in
    let some : 0 < n = grind (arith, nat_tests) in
    let first : take n skip.0 ≡ t = grind arith in
    let behind : drop n skip.0 ≡ rest = grind arith in
    let len : length t ≡ n = ap length (sym first) ∙ length-take n skip.0 ∙ omega (arith, token_len-le skip.0) in
    let parts : skip.0 ≡ t ++ rest = sym (take-append-drop n skip.0) ∙ ap₂ (λ x y. x ++ y) first behind in
    (skip.0, rest, (skipped text skip.0 skip.1).0, parts, omega (arith, some, len), sym len, refl)

-- a text that goes on with a gap and then no token shows the fault
abbrev pub HasNoToken : Fault → List ℕ → Type 0
HasNoToken f due =
    (at : List ℕ) × Gap due at × (((f.rule ≡ rule.BadByte) × IsBadByte at × (f.left ≡ length at))
    ⊎ (((f.rule ≡ rule.BadToken) × IsStray at × (f.left ≡ length at)) ⊎ ((f.rule ≡ rule.Unfinished) × IsUnfinished at × (f.left ≡ 0))))

no_token-shows : (due at : List ℕ) (f : Fault) → Gap due at → NoGap at → token_len at ≡ 0 → no_token at ≡ f → HasNoToken f due
no_token-shows due [] f gap stop none e = ([], gap, inr (inr (grind arith)))
no_token-shows due (b ∷ bs) f gap stop none e =
    elim (is_printed b) as (λ t. is_printed b ≡ t → HasNoToken f due) [
      | true ↦ λ printed. (b ∷ bs, gap, inr (inl (grind arith)))
      | false ↦ λ other. (b ∷ bs, gap, inl (grind arith))
    ] refl

pub no_token-found : (due : List ℕ) (f : Fault) → token_at due ≡ Err f → HasNoToken f due
unfolding token_at
no_token-found due f h =
    elim (bind_err (skip_from state.Blanks due) _ f h) [
      | inl skip ↦
          let (unf, open_yet) : Shows state.Blanks due (Err f) = subst (Shows state.Blanks due) skip (shows due state.Blanks) in
          elim open_yet [ inl never ↦ absurd never | inr (at, gap, u) ↦ (at, gap, inr (inr (grind arith))) ]
      | inr (rest, skip, then) ↦
          let none : token_len rest ≡ 0 = grind (arith, nat_tests) in
          no_token-shows due rest f (skipped due rest skip).0 (skipped due rest skip).1 none (grind arith)
    ]
