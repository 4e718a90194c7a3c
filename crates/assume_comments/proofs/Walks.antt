-- Comments one after the other.
use Rattle.std.proofs.Common.{◌≡◌, inl, inr, ℕ, List, [], ◌∷◌, ◌++◌, map, Option, Some, None, refl, sym, ap, subst, ◌∙◌}
use Rattle.std.specs.List.{filter_map}
use Rattle.std.specs.Str.Lossy.{utf8_lossy}
use Rattle.std.proofs.lemmas.List.{append_assoc, append-nil, map-append}
use Rattle.std.proofs.lemmas.List.Elements.{filter_map-append}
use Rattle.assume_comments.specs.Comments.{Comments, ended, token, blank, comment, line_comment, IsUnambiguous, AreAssumed, assumed_by, assumption_of}
use Rattle.assume_comments.specs.Front.{Start, Ended, Commented, Passed, start_of}
use Rattle.assume_comments.proofs.Starts.{blank_found, comment_found, line_found, end_found, token_found, GoesOn, found, leads}

-- what the reader has read when the rest is left
pub record SoFar (text rest : List ℕ) (texts : List (List ℕ)) : Type 0 where
  pub seen : List (List ℕ)
  pub assumed : texts ≡ assumed_by seen
  pub onward : (more : List (List ℕ)) → Comments rest more → Comments text (seen ++ more)
  pub back : (comments : List (List ℕ)) → Comments text comments → (more : List (List ℕ)) × Comments rest more

pub at_start : (text : List ℕ) (texts : List (List ℕ)) → texts ≡ [] → SoFar text text texts
at_start text texts none = record { seen = []; assumed = none; onward = λ more c. c; back = λ comments c. (comments, c) }

goes : (text : List ℕ) (start : Option Start) (comments : List (List ℕ)) → start_of text ≡ start → Comments text comments → GoesOn start comments
goes text start comments e c = subst (λ s. GoesOn s comments) e (found text comments c)

led : (text : List ℕ) (start : Option Start) (comments : List (List ℕ)) → start_of text ≡ start → GoesOn start comments → Comments text comments
led text start comments e g = leads text comments (subst (λ s. GoesOn s comments) (sym e) g)

pub passed : (text rest after : List ℕ) (texts : List (List ℕ)) → SoFar text rest texts → start_of rest ≡ Some (Passed after) → SoFar text after texts
passed text rest after texts so_far e = record {
  seen = so_far.seen;
  assumed = so_far.assumed;
  onward = λ more c. so_far.onward more (led rest (Some (Passed after)) more e c);
  back = λ comments c. let b = so_far.back comments c in (b.0, goes rest (Some (Passed after)) b.0 e b.1);
}

assumed-append : (seen others : List (List ℕ)) → assumed_by (seen ++ others) ≡ assumed_by seen ++ assumed_by others
assumed-append seen others =
    ap (map utf8_lossy) (filter_map-append assumption_of seen others) ∙ map-append utf8_lossy (filter_map assumption_of seen) (filter_map assumption_of others)

pub commented : (text rest inside after : List ℕ) (texts more : List (List ℕ)) → SoFar text rest texts → start_of rest ≡ Some (Commented inside after)
    → more ≡ texts ++ assumed_by (inside ∷ []) → SoFar text after more
commented text rest inside after texts more so_far e added = record {
  seen = so_far.seen ++ inside ∷ [];
  assumed = added ∙ ap (λ t. t ++ assumed_by (inside ∷ [])) so_far.assumed ∙ sym (assumed-append so_far.seen (inside ∷ []));
  onward = λ others c.
      subst (Comments text) (sym (append_assoc so_far.seen (inside ∷ []) others))
      (so_far.onward (inside ∷ others) (led rest (Some (Commented inside after)) (inside ∷ others) e (others, refl, c)));
  back = λ comments c.
      let b = so_far.back comments c in
      let g = goes rest (Some (Commented inside after)) b.0 e b.1 in
      (g.0, g.2);
}

pub ends : (text rest : List ℕ) (texts : List (List ℕ)) → SoFar text rest texts → start_of rest ≡ Some Ended → AreAssumed text texts
ends text rest texts so_far e =
    inl (so_far.seen, subst (Comments text) (append-nil so_far.seen) (so_far.onward [] (led rest (Some Ended) [] e refl)), so_far.assumed)

pub breaks : (text rest : List ℕ) (texts none : List (List ℕ)) → SoFar text rest texts → start_of rest ≡ None → none ≡ [] → AreAssumed text none
breaks text rest texts none so_far e empty = inr (λ comments c. (let b = so_far.back comments c in goes rest None b.0 e b.1), empty)

pub unambiguous : IsUnambiguous
unambiguous _ _ others (ended word after is end) w = sym (goes (word ++ after) (Some Ended) others (end_found word after is end) w)
unambiguous _ _ others (token word after comments is other c) w =
    unambiguous after comments others c (goes (word ++ after) (Some (Passed after)) others (token_found word after is other) w)
unambiguous _ _ others (blank b after comments h c) w =
    unambiguous after comments others c (goes (b ∷ after) (Some (Passed after)) others (blank_found b after h) w)
unambiguous _ _ others (comment inside after comments h c) w =
    let g = goes (40 ∷ 42 ∷ (inside ++ (42 ∷ 41 ∷ after))) (Some (Commented inside after)) others (comment_found inside after h) w in
    ap (λ more. inside ∷ more) (unambiguous after comments g.0 c g.2) ∙ sym g.1
unambiguous _ _ others (line_comment inside after comments all stop c) w =
    unambiguous after comments others c (goes (47 ∷ 47 ∷ (inside ++ after)) (Some (Passed after)) others (line_found inside after all stop) w)
