-- What a record tells: a header its columns, a row its moment and its bits.
use Rattle.std.proofs.Common.{◌≡◌, ◌∙◌, ◌∷◌, [], ℕ, suc, zero, Bool, true, false, List, Option, Some, None, ap, codes, drop, map, refl, slice_get, sym, take}
use Rattle.std.specs.Prelude.{option_map}
use Rattle.std.specs.Str.Parse.{digits_value}
use Rattle.std.proofs.lemmas.Fmt.{decimal_is_IsNumeral}
use Rattle.std.proofs.lemmas.List.{take-map}
use Rattle.std.proofs.lemmas.Option.{same_Some, slice_get-map}
use Rattle.diagram_declarations.specs.Decls.{Declared}
use Rattle.io_text.specs.Left.{Fields}
use Rattle.io_text.specs.Text.{bit_text, is_on}
use Rattle.text_trace.specs.Stimulus.{IsHeader, IsRow, input_named}

-- ---- a row

abbrev first_field : Fields → List ℕ
first_field [] = []
first_field (f ∷ fs) = f

bits_back : (bits : List Bool) → map (λ f. is_on (Some f)) (map bit_text bits) ≡ bits
bits_back [] = refl
bits_back (true ∷ bits) = ap (λ l. true ∷ l) (bits_back bits)
bits_back (false ∷ bits) = ap (λ l. false ∷ l) (bits_back bits)

pub one_moment : (columns others : List ℕ) (fs : Fields) (m n : ℕ) (bits more : List Bool) → IsRow columns fs m bits → IsRow others fs n more → m ≡ n
one_moment columns others fs m n bits more h g =
    sym (decimal_is_IsNumeral m h.small).1
    ∙ ap (λ (l : Fields). digits_value 10 (first_field l)) (sym h.same ∙ g.same)
    ∙ (decimal_is_IsNumeral n g.small).1

pub same_bits : (columns others : List ℕ) (fs : Fields) (m n : ℕ) (bits more : List Bool) → IsRow columns fs m bits → IsRow others fs n more → bits ≡ more
same_bits columns others fs m n bits more h g =
    sym (bits_back bits) ∙ ap (λ (l : Fields). map (λ f. is_on (Some f)) (drop 1 l)) (sym h.same ∙ g.same) ∙ bits_back more

-- ---- a header

somes_apart : (xs ys : List ℕ) → map Some xs ≡ map Some ys → xs ≡ ys
somes_apart [] [] e = refl
somes_apart [] (y ∷ ys) e = cc
somes_apart (x ∷ xs) [] e = cc
somes_apart (x ∷ xs) (y ∷ ys) e =
    let first : x ≡ y = cc in
    let rest : map Some xs ≡ map Some ys = cc in
    ap (λ z. z ∷ xs) first ∙ ap (λ l. y ∷ l) (somes_apart xs ys rest)

pub one_header : (d : Declared) (fs : Fields) (columns others : List ℕ) → IsHeader d fs columns → IsHeader d fs others → columns ≡ others
one_header d fs columns others h g =
    somes_apart columns others (sym h.named ∙ ap (λ (l : Fields). map (input_named d) (drop 1 l)) (sym h.same ∙ g.same) ∙ g.named)

-- a word behind some first words that are a header names the input at the next place
pub next_word : (d : Declared) (fs : Fields) (word : List ℕ) (columns others : List ℕ) (n : ℕ) → IsHeader d fs columns → IsHeader d (take n fs) others → slice_get fs n ≡ Some word
    → (m : ℕ) × (c : ℕ) × (others ≡ take m columns) × (slice_get columns m ≡ Some c) × (input_named d word ≡ Some c)
next_word d fs word columns others zero h g e = let bad : [] ≡ codes "moment" ∷ g.words = g.same in cc
next_word d fs word columns others (suc m) h g e = by_place (slice_get columns m) refl named
  where
    cut : take (suc m) fs ≡ codes "moment" ∷ take m h.words
    cut = ap (take (suc m)) h.same

    words : g.words ≡ take m h.words
    words = ap (λ (l : Fields). drop 1 l) (sym g.same ∙ cut)

    same : others ≡ take m columns
    same =
        somes_apart others (take m columns)
        (sym g.named ∙ ap (map (input_named d)) words ∙ sym (take-map (input_named d) m h.words) ∙ ap (take m) h.named ∙ take-map Some m columns)

    there : slice_get h.words m ≡ Some word
    there = sym (ap (λ (l : Fields). slice_get l (suc m)) h.same) ∙ e

    named : option_map Some (slice_get columns m) ≡ Some (input_named d word)
    named =
        sym (slice_get-map Some columns m)
        ∙ ap (λ l. slice_get l m) (sym h.named)
        ∙ slice_get-map (input_named d) h.words m
        ∙ ap (option_map (input_named d)) there

    by_place : (o : Option ℕ) → slice_get columns m ≡ o → option_map Some o ≡ Some (input_named d word)
        → (k : ℕ) × (c : ℕ) × (others ≡ take k columns) × (slice_get columns k ≡ Some c) × (input_named d word ≡ Some c)
    by_place None at name = cc
    by_place (Some c) at name = (m, c, same, at, sym (same_Some _ _ name))
