-- Words one after the other.
use Rattle.std.proofs.Common.{◌≡◌, ℕ, true, false, List, [], ◌∷◌, ◌++◌, None, refl, sym, ap, ◌∙◌, subst}
use Rattle.std.proofs.lemmas.Option.{same_Some, none-some}
use Rattle.std.proofs.lemmas.List.{append_cancel_right, append-nil}
use Rattle.st_words.specs.Words.{Words, nothing, after_gap, after_word, AreWords, IsUnambiguous}
use Rattle.st_words.specs.Front.{Front, front, front_of}
use Rattle.st_words.proofs.Fronts.{gap_found, word_found}

pub words_append : (text middle rest : List ℕ) (front back : List (List ℕ)) → Words text front middle → Words middle back rest → Words text (front ++ back) rest
words_append _ _ rest _ back (nothing middle) w = w
words_append _ _ rest _ back (after_gap text after middle words gap v) w = after_gap text after rest (words ++ back) gap (words_append after middle rest words back v w)
words_append _ _ rest _ back (after_word word after middle words is v) w =
    after_word word after rest (words ++ back) is (words_append after middle rest words back v w)

-- how a list of words begins
data Shape : (text : List ℕ) (words : List (List ℕ)) → Type 0 where
  ends : (text : List ℕ) → text ≡ [] → Shape text []
  by_gap : (text after : List ℕ) (words : List (List ℕ)) → front_of text ≡ front false after → AreWords after words → Shape text words
  by_word : (text word after : List ℕ) (words : List (List ℕ)) → text ≡ word ++ after → front_of text ≡ front true after → AreWords after words
      → Shape text (word ∷ words)

shape : (text rest : List ℕ) (words : List (List ℕ)) → rest ≡ [] → Words text words rest → Shape text words
shape _ _ _ end (nothing rest) = ends rest end
shape _ _ _ end (after_gap text after rest words gap w) = by_gap text after words (gap_found text after gap) (subst (Words after words) end w)
shape _ _ _ end (after_word word after rest words is w) = by_word (word ++ after) word after words refl (word_found word after is) (subst (Words after words) end w)

-- what stands behind some words of a text that is words
record Behind (rest : List ℕ) (first words : List (List ℕ)) : Type 0 where
  others : List (List ℕ)
  are : AreWords rest others
  whole : words ≡ first ++ others

empty_none : front_of [] ≡ None
unfolding front_of
empty_none = refl

behind_gap : (text after rest : List ℕ) (first words : List (List ℕ)) → front_of text ≡ front false after
    → ((others : List (List ℕ)) → AreWords after others → Behind rest first others) → Shape text words → Behind rest first words
behind_gap text after rest first _ e more (ends _ empty) = absurd (none-some _ (sym empty_none ∙ ap front_of (sym empty) ∙ e))
behind_gap text after rest first words e more (by_gap _ after' _ e' w) =
    let same : after' ≡ after = ap (λ (f : Front). f.rest) (same_Some _ _ (sym e' ∙ e)) in
    more words (subst (λ t. AreWords t words) same w)
behind_gap text after rest first _ e more (by_word _ word after' words whole e' w) =
    let other : true ≡ false = ap (λ (f : Front). f.is_word) (same_Some _ _ (sym e' ∙ e)) in
    absurd cc

behind_word : (text word after rest : List ℕ) (first words : List (List ℕ)) → text ≡ word ++ after → front_of text ≡ front true after
    → ((others : List (List ℕ)) → AreWords after others → Behind rest first others) → Shape text words → Behind rest (word ∷ first) words
behind_word text word after rest first _ whole e more (ends _ empty) = absurd (none-some _ (sym empty_none ∙ ap front_of (sym empty) ∙ e))
behind_word text word after rest first words whole e more (by_gap _ after' _ e' w) =
    let other : false ≡ true = ap (λ (f : Front). f.is_word) (same_Some _ _ (sym e' ∙ e)) in
    absurd cc
behind_word text word after rest first _ whole e more (by_word _ word' after' words whole' e' w) =
    let same : after' ≡ after = ap (λ (f : Front). f.rest) (same_Some _ _ (sym e' ∙ e)) in
    let equal : word' ≡ word = append_cancel_right word' word after (ap (λ t. word' ++ t) (sym same) ∙ sym whole' ∙ whole) in
    let m = more words (subst (λ t. AreWords t words) same w) in
    record { others = m.others; are = m.are; whole = ap (λ ws. word' ∷ ws) m.whole ∙ ap (λ w'. w' ∷ (first ++ m.others)) equal }

-- any list of words of a text goes on as its first words do
behind : (text rest : List ℕ) (first : List (List ℕ)) → Words text first rest → (words : List (List ℕ)) → AreWords text words → Behind rest first words
behind _ _ _ (nothing rest) words w = record { others = words; are = w; whole = refl }
behind _ _ _ (after_gap text after rest first gap v) words w =
    behind_gap text after rest first words (gap_found text after gap) (behind after rest first v) (shape text [] words refl w)
behind _ _ _ (after_word word after rest first is v) words w =
    behind_word (word ++ after) word after rest first words refl (word_found word after is) (behind after rest first v) (shape (word ++ after) [] words refl w)

no_more : (text : List ℕ) (words : List (List ℕ)) → front_of text ≡ None → Shape text words → (text ≡ []) × (words ≡ [])
no_more text _ e (ends _ empty) = (empty, refl)
no_more text words e (by_gap _ after _ e' w) = absurd (none-some _ (sym e ∙ e'))
no_more text _ e (by_word _ word after words whole e' w) = absurd (none-some _ (sym e ∙ e'))

pub unambiguous : IsUnambiguous
unambiguous text words others v w =
    let found = behind text [] words v others w in
    let none = no_more [] found.others empty_none (shape [] [] found.others refl found.are) in
    sym (rw (found.whole, none.1) (append-nil words))

-- behind its first words nothing begins, so the text is no list of words
pub no_words : (text rest : List ℕ) (first : List (List ℕ)) → Words text first rest → front_of rest ≡ None → (rest ≡ [] → ⊥)
    → (words : List (List ℕ)) → AreWords text words → ⊥
no_words text rest first v e some words w =
    let found = behind text rest first v words w in
    some (no_more rest found.others e (shape rest [] found.others refl found.are)).0
