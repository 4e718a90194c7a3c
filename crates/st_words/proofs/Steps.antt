-- What a step of the reader adds.
use Rattle.std.proofs.Common.{◌≡◌, ℕ, ◌-◌, ◌<◌, ◌≤◌, true, false, List, [], ◌∷◌, ◌++◌, length, drop, slice_range, None, refl, sym, ap, ◌∙◌, subst, arith, append_assoc}
use Rattle.std.proofs.lemmas.List.{append_cancel_right, append-nil, length-append, map-append}
use Rattle.std.proofs.lemmas.List.Folds.{drop_split}
use Rattle.std.proofs.Math.Seq.{drop-append_seam}
use Rattle.st_words.specs.declared.word.Word.{Word}
use Rattle.st_words.specs.Words.{Gap, blank, comment, line_comment, Words, nothing, after_gap, after_word, BeginsNone}
use Rattle.st_words.specs.Places.{spelled, spellings, AreBetween}
use Rattle.st_words.specs.Refusals.{RefusedAt}
use Rattle.st_words.specs.Front.{front, front_of}
use Rattle.st_words.proofs.Fronts.{FrontWord, Finds, finds, begins_none}
use Rattle.st_words.proofs.Walks.{words_append, no_words}

-- the rest ends the text
abbrev IsEnd : List ℕ → List ℕ → Type 0
IsEnd text rest = (first : List ℕ) × (text ≡ first ++ rest)

end_behind : (first text rest : List ℕ) → IsEnd text rest → IsEnd (first ++ text) rest
end_behind first text rest h = (first ++ h.0, ap (λ t. first ++ t) h.1 ∙ sym (append_assoc first h.0 rest))

gap_end : (text rest : List ℕ) → Gap text rest → IsEnd text rest
gap_end _ _ (blank b rest h) = (b ∷ [], refl)
gap_end _ _ (comment inside rest h) = end_behind (40 ∷ 42 ∷ inside) (42 ∷ 41 ∷ rest) rest (42 ∷ 41 ∷ [], refl)
gap_end _ _ (line_comment inside rest all stop) = (47 ∷ 47 ∷ inside, refl)

end_chain : (text after rest : List ℕ) → IsEnd text after → IsEnd after rest → IsEnd text rest
end_chain text after rest h k = (h.0 ++ k.0, h.1 ∙ ap (λ t. h.0 ++ t) k.1 ∙ sym (append_assoc h.0 k.0 rest))

words_end : (text rest : List ℕ) (words : List (List ℕ)) → Words text words rest → IsEnd text rest
words_end _ _ _ (nothing rest) = ([], refl)
words_end _ _ _ (after_gap text after rest words gap v) = end_chain text after rest (gap_end text after gap) (words_end after rest words v)
words_end _ _ _ (after_word word after rest words is v) = end_behind word after rest (words_end after rest words v)

place_of : (text rest : List ℕ) → IsEnd text rest → drop (length text - length rest) text ≡ rest
place_of text rest h =
    let n : length text - length rest ≡ length h.0 = omega (arith, ap length h.1, length-append h.0 rest) in
    rw n (ap (drop (length h.0)) h.1 ∙ drop-append_seam h.0 rest)

-- what the reader has read when the rest is left
pub record SoFar (text rest : List ℕ) (words : List Word) : Type 0 where
  pub reads : Words text (spellings text words) rest
  pub shorter : length rest ≤ length text
  pub places : AreBetween 0 (length text - length rest) words

pub at_start : (text : List ℕ) (words : List Word) → words ≡ [] → SoFar text text words
at_start text words e =
    rw e (record { reads = nothing text; shorter = omega arith; places = omega arith })

widen : (from to to' : ℕ) (words : List Word) → to ≤ to' → AreBetween from to words → AreBetween from to' words
widen from to to' [] more h = omega arith
widen from to to' (w ∷ ws) more h = (h.0, h.1, widen w.end to to' ws more h.2)

one_more : (from to : ℕ) (words : List Word) (word : Word) → to ≤ word.start → word.start < word.end → AreBetween from to words
    → AreBetween from word.end (words ++ word ∷ [])
one_more from to [] word first some h = (omega arith, some, omega arith)
one_more from to (w ∷ ws) word first some h = (h.0, h.1, one_more w.end to ws word first some h.2)

gap_at : (rest after : List ℕ) → front_of rest ≡ front false after → Gap rest after
gap_at rest after e = subst (Finds rest) e (finds rest)

word_at : (rest after : List ℕ) → front_of rest ≡ front true after → FrontWord rest after
word_at rest after e = subst (Finds rest) e (finds rest)

pub with_gap : (text rest after : List ℕ) (words : List Word) → SoFar text rest words → front_of rest ≡ front false after → length after < length rest
    → SoFar text after words
with_gap text rest after words h e less =
    let shorter = h.shorter in
    let gap = gap_at rest after e in
    let reads = words_append text rest after (spellings text words) [] h.reads (after_gap rest after after [] gap (nothing after)) in
    record {
      reads = subst (λ ws. Words text ws after) (append-nil (spellings text words)) reads;
      shorter = omega arith;
      places = widen 0 (length text - length rest) (length text - length after) words (omega arith) h.places;
    }

-- the bytes between two places where what is left begins
spelled_between : (text rest after word : List ℕ) → length after < length rest → length rest ≤ length text → IsEnd text rest → rest ≡ word ++ after
    → spelled text (record { start = length text - length rest; end = length text - length after }) ≡ word
spelled_between text rest after word less shorter end whole =
    let start = length text - length rest in
    let stop = length text - length after in
    let order : start ≤ stop = omega arith in
    let end' = end_chain text rest after end (word, whole) in
    append_cancel_right _ word after
    (ap (λ t. slice_range text start stop ++ t) (sym (place_of text after end')) ∙ sym (drop_split text start stop order) ∙ place_of text rest end ∙ whole)

pub with_word : (text rest after : List ℕ) (words : List Word) → SoFar text rest words → front_of rest ≡ front true after → length after < length rest
    → SoFar text after (words ++ record { start = length text - length rest; end = length text - length after } ∷ [])
with_word text rest after words h e less =
    let shorter = h.shorter in
    let found = word_at rest after e in
    let word : Word = record { start = length text - length rest; end = length text - length after } in
    let spells = spelled_between text rest after found.word less h.shorter (words_end text rest (spellings text words) h.reads) found.whole in
    let last = subst (λ t. Words t (found.word ∷ []) after) (sym found.whole) (after_word found.word after after [] found.is_word (nothing after)) in
    let reads = words_append text rest after (spellings text words) (found.word ∷ []) h.reads last in
    let same : spellings text words ++ found.word ∷ [] ≡ spellings text (words ++ word ∷ []) =
    ap (λ w. spellings text words ++ w ∷ []) (sym spells) ∙ sym (map-append (spelled text) words (word ∷ [])) in
    record {
      reads = subst (λ ws. Words text ws after) same reads;
      shorter = omega arith;
      places = one_more 0 (length text - length rest) words word (omega arith) (omega arith) h.places;
    }

pub refused : (text rest : List ℕ) (words : List Word) → SoFar text rest words → front_of rest ≡ None → (rest ≡ [] → ⊥)
    → RefusedAt text (length text - length rest)
refused text rest words h e some =
    let at = place_of text rest (words_end text rest (spellings text words) h.reads) in
    let none = none_begins rest e some in
    record {
      before = spellings text words;
      words = rw at h.reads;
      none = rw at none;
      no_words = no_words text rest (spellings text words) h.reads e some;
    }
  where
    none_begins : (rest : List ℕ) → front_of rest ≡ None → (rest ≡ [] → ⊥) → BeginsNone rest
    none_begins [] e some = absurd (some refl)
    none_begins (b ∷ bs) e some = begins_none b bs e
