-- What the reader finds at the start of a text is what begins it, and nothing else begins it.
use Rattle.std.proofs.Common.{◌≡◌, ℕ, ◌+◌, ◌-◌, ◌<◌, ◌≤◌, true, false, ◌&&◌, ◌==◌, cond, List, [], ◌∷◌, ◌++◌, length, take, drop, Option, Some, None, refl, sym, ap, ◌∙◌, subst, arith}
use Rattle.std.specs.List.{list_all, prefix_len}
use Rattle.std.proofs.Math.Seq.{take-append_seam, drop-append_seam}
use Rattle.std.proofs.lemmas.Bool.{and_parts, eqb-true, both_ways, cond_both}
use Rattle.std.proofs.lemmas.Bool.Decides.{nat_tests}
use Rattle.std.proofs.lemmas.List.{take-append-drop, length-take}
use Rattle.std.proofs.lemmas.List.Sums.{prefix_len-le-length}
use Rattle.diagram_declarations.specs.Text.{begins, begins_with, closes, is_blank, token_len}
use Rattle.assume_comments.specs.Comments.{Comments, ended, token, blank, comment, line_comment, IsToken, is_end, is_in_line}
use Rattle.assume_comments.specs.Front.{Start, Ended, Commented, Passed, behind_close, comment_start, token_start, start_of}
use Rattle.assume_comments.proofs.Runs.{run_passes, run_stops, run_before, closed, inside_is, close_found}

-- ---- what is there is found

pub blank_found : (b : ℕ) (after : List ℕ) → is_blank b after ≡ true → start_of (b ∷ after) ≡ Some (Passed after)
unfolding start_of
blank_found b after h = rw h refl

pub comment_found : (inside after : List ℕ) → closes inside ≡ false → start_of (40 ∷ 42 ∷ (inside ++ (42 ∷ 41 ∷ after))) ≡ Some (Commented inside after)
unfolding start_of
comment_found inside after h =
    ap (comment_start (inside ++ (42 ∷ 41 ∷ after))) (closed inside after h) ∙ ap (λ i. Some (Commented i after)) (inside_is inside after)

pub line_found : (inside after : List ℕ) → list_all is_in_line inside ≡ true → begins is_in_line after ≡ false
    → start_of (47 ∷ 47 ∷ (inside ++ after)) ≡ Some (Passed after)
unfolding start_of
line_found inside after all stop = ap (λ rest. Some (Passed rest)) (run_before is_in_line inside after all stop)

no_blank : (b : ℕ) (bs : List ℕ) → 0 < token_len (b ∷ bs) → is_blank b bs ≡ false
no_blank b bs h = grind (arith, nat_tests)

no_comment : (b : ℕ) (bs : List ℕ) → 0 < token_len (b ∷ bs) → (b == 40 && begins_with 42 bs) ≡ false
no_comment b bs h = grind (arith, nat_tests)

no_line : (b : ℕ) (bs : List ℕ) → 0 < token_len (b ∷ bs) → (b == 47 && begins_with 47 bs) ≡ false
no_line b bs h = grind (arith, nat_tests)

at_token : (text : List ℕ) → 0 < token_len text → start_of text ≡ token_start (token_len text) text
unfolding start_of
at_token [] h = grind arith
at_token (b ∷ bs) h = rw (no_blank b bs h, no_comment b bs h, no_line b bs h) refl

-- a token of some length, and what is behind it
token_cut : (n : ℕ) (text word after : List ℕ) → (n == 0) ≡ false → take n text ≡ word → drop n text ≡ after
    → token_start n text ≡ cond (is_end word) (Some Ended) (Some (Passed after))
token_cut n text word after some first rest = rw (some, first, rest) refl

any_found : (word after : List ℕ) → IsToken word after → start_of (word ++ after) ≡ cond (is_end word) (Some Ended) (Some (Passed after))
any_found word after is =
    at_token (word ++ after) (rw is.longest is.some) ∙ ap (λ n. token_start n (word ++ after)) is.longest
    ∙ token_cut (length word) (word ++ after) word after (grind (arith, nat_tests, is.some)) (take-append_seam word after) (drop-append_seam word after)

pub end_found : (word after : List ℕ) → IsToken word after → is_end word ≡ true → start_of (word ++ after) ≡ Some Ended
end_found word after is end = any_found word after is ∙ ap (λ b. cond b (Some Ended) (Some (Passed after))) end

pub token_found : (word after : List ℕ) → IsToken word after → is_end word ≡ false → start_of (word ++ after) ≡ Some (Passed after)
token_found word after is other = any_found word after is ∙ ap (λ b. cond b (Some Ended) (Some (Passed after))) other

-- ---- the comments from a start on

abbrev pub GoesOn : Option Start → List (List ℕ) → Type 0
GoesOn None comments = ⊥
GoesOn (Some Ended) comments = comments ≡ []
GoesOn (Some (Commented inside rest)) comments = (more : List (List ℕ)) × (comments ≡ inside ∷ more) × Comments rest more
GoesOn (Some (Passed rest)) comments = Comments rest comments

pub found : (text : List ℕ) (comments : List (List ℕ)) → Comments text comments → GoesOn (start_of text) comments
found _ _ (ended word after is end) = rw (end_found word after is end) refl
found _ _ (token word after comments is other c) = rw (token_found word after is other) c
found _ _ (blank b after comments h c) = rw (blank_found b after h) c
found _ _ (comment inside after comments h c) = rw (comment_found inside after h) (comments, refl, c)
found _ _ (line_comment inside after comments all stop c) = rw (line_found inside after all stop) c

-- ---- what is found is there

-- this start leads to comments of the text
abbrev Leads : List ℕ → Option Start → Type 0
Leads text start = (comments : List (List ℕ)) → GoesOn start comments → Comments text comments

opened : (text : List ℕ) (behind : Option (List ℕ)) → behind_close text ≡ behind → Leads (40 ∷ 42 ∷ text) (comment_start text behind)
opened text None e comments goes = absurd goes
opened text (Some rest) e comments goes =
    let is = close_found text rest e in
    let inside : take (length text - (length rest + 2)) text ≡ is.inside = ap (λ t. take (length t - (length rest + 2)) t) is.whole ∙ inside_is is.inside rest in
    let all : comments ≡ is.inside ∷ goes.0 = goes.1 ∙ ap (λ i. i ∷ goes.0) inside in
    subst (λ t. Comments (40 ∷ 42 ∷ t) comments) (sym is.whole)
    (subst (Comments (40 ∷ 42 ∷ (is.inside ++ (42 ∷ 41 ∷ rest)))) (sym all) (comment is.inside rest goes.0 is.first goes.2))

comment_leads : (b : ℕ) (bs : List ℕ) → (b == 40 && begins_with 42 bs) ≡ true → Leads (b ∷ bs) (comment_start (drop 1 bs) (behind_close (drop 1 bs)))
comment_leads b [] h = absurd (both_ways false refl (and_parts (b == 40) false h).1)
comment_leads b (c ∷ cs) h =
    let both = and_parts (b == 40) (c == 42) h in
    rw (eqb-true b 40 both.0, eqb-true c 42 both.1) (opened cs (behind_close cs) refl)

line_leads : (b : ℕ) (bs : List ℕ) → (b == 47 && begins_with 47 bs) ≡ true
    → Leads (b ∷ bs) (Some (Passed (drop (prefix_len is_in_line (drop 1 bs)) (drop 1 bs))))
line_leads b [] h comments goes = absurd (both_ways false refl (and_parts (b == 47) false h).1)
line_leads b (c ∷ cs) h comments goes =
    let both = and_parts (b == 47) (c == 47) h in
    let n = prefix_len is_in_line cs in
    let whole = line_comment (take n cs) (drop n cs) comments (run_passes is_in_line cs) (run_stops is_in_line cs) goes in
    rw (eqb-true b 47 both.0, eqb-true c 47 both.1) (subst (λ t. Comments (47 ∷ 47 ∷ t) comments) (take-append-drop n cs) whole)

begins_some : (byte : ℕ) (bs : List ℕ) → begins_with byte bs ≡ true → 1 ≤ length bs
begins_some byte [] h = cc
begins_some byte (b ∷ bs) h = omega arith

token_len-le : (text : List ℕ) → token_len text ≤ length text
token_len-le [] = omega arith
token_len-le (b ∷ bs) = grind (arith, prefix_len-le-length, begins_some)

token_is : (text : List ℕ) → (token_len text == 0) ≡ false → IsToken (take (token_len text) text) (drop (token_len text) text)
token_is text some =
    let n = token_len text in
    let len : length (take n text) ≡ n = length-take n text ∙ omega (arith, token_len-le text) in
    record { some = rw len (grind (arith, nat_tests)); longest = ap token_len (take-append-drop n text) ∙ sym len }

token_leads : (text : List ℕ) → Leads text (token_start (token_len text) text)
token_leads text comments =
    let n = token_len text in
    let word = take n text in
    let after = drop n text in
    let at = take-append-drop n text in
    cond_both (n == 0) _ _ (λ start. GoesOn start comments → Comments text comments) (λ none goes. absurd goes) (λ some.
    cond_both (is_end word) _ _ (λ start. GoesOn start comments → Comments text comments)
    (λ end goes. subst (λ t. Comments t comments) at (subst (Comments (word ++ after)) (sym goes) (ended word after (token_is text some) end)))
    (λ other goes. subst (λ t. Comments t comments) at (token word after comments (token_is text some) other goes)))

pub leads : (text : List ℕ) → Leads text (start_of text)
unfolding start_of
leads [] = λ comments goes. absurd goes
leads (b ∷ bs) =
    cond_both (is_blank b bs) _ _ (Leads (b ∷ bs)) (λ h comments goes. blank b bs comments h goes) (λ no_blank.
    cond_both (b == 40 && begins_with 42 bs) _ _ (Leads (b ∷ bs)) (comment_leads b bs) (λ no_comment.
    cond_both (b == 47 && begins_with 47 bs) _ _ (Leads (b ∷ bs)) (line_leads b bs) (λ no_line. token_leads (b ∷ bs))))
