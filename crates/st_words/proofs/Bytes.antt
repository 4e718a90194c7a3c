-- What a byte is excludes what else it could be.
use Rattle.std.proofs.Common.{◌≡◌, inl, inr, ℕ, Bool, true, false, not, ◌&&◌, ◌==◌, List, [], ◌∷◌, codes, refl, ap, ◌∙◌}
use Rattle.std.specs.List.{list_all}
use Rattle.std.proofs.lemmas.Bool.{and_parts, or_cases, eqb-true, both_ways, not-true}
use Rattle.st_words.specs.Words.{is_one_of, are_one_of, is_blank, is_word_byte, is_symbol, is_pair}

-- a test that some bytes pass is passed by each of them
one_passes : (p : ℕ → Bool) (b : ℕ) (bytes : List ℕ) → list_all p bytes ≡ true → is_one_of bytes b ≡ true → p b ≡ true
one_passes p b [] all h = absurd cc
one_passes p b (other ∷ bytes) all h =
    let both = and_parts (p other) (list_all p bytes) all in
    elim (or_cases (b == other) (is_one_of bytes b) h) [
      | inl same ↦ ap p (eqb-true b other same) ∙ both.0
      | inr among ↦ one_passes p b bytes both.1 among
    ]

-- the same of two bytes
pair_passes : (p : ℕ → ℕ → Bool) (a b : ℕ) (pairs : List (ℕ × ℕ)) → list_all (λ x. p x.0 x.1) pairs ≡ true → are_one_of pairs a b ≡ true → p a b ≡ true
pair_passes p a b [] all h = absurd cc
pair_passes p a b (other ∷ pairs) all h =
    let both = and_parts (p other.0 other.1) (list_all (λ x. p x.0 x.1) pairs) all in
    elim (or_cases (a == other.0 && b == other.1) (are_one_of pairs a b) h) [
      | inl same ↦ (let two = and_parts (a == other.0) (b == other.1) same in
          ap (λ x. p x b) (eqb-true a other.0 two.0) ∙ ap (p other.0) (eqb-true b other.1 two.1) ∙ both.0)
      | inr among ↦ pair_passes p a b pairs both.1 among
    ]

refuted : (b : Bool) → (b ≡ true → ⊥) → b ≡ false
refuted true h = absurd (h refl)
refuted false h = refl

pub letter_no_blank : (b : ℕ) → is_word_byte b ≡ true → is_blank b ≡ false
letter_no_blank b h =
    refuted (is_blank b) (λ (blank : is_blank b ≡ true).
    both_ways (is_word_byte b) (not-true (is_word_byte b) (one_passes (λ c. not (is_word_byte c)) b (32 ∷ 9 ∷ 13 ∷ 10 ∷ []) refl blank)) h)

-- neither a blank nor a byte of a longer word
pub record IsBare (b : ℕ) : Type 0 where
  pub no_blank : is_blank b ≡ false
  pub no_letter : is_word_byte b ≡ false

abbrev is_bare : ℕ → Bool
is_bare b = not (is_blank b) && not (is_word_byte b)

pub symbol_bare : (b : ℕ) → is_symbol b ≡ true → IsBare b
symbol_bare b h =
    let both = and_parts (not (is_blank b)) (not (is_word_byte b)) (one_passes is_bare b (codes "()*+,-/:;<=>[]&") refl h) in
    record { no_blank = not-true _ both.0; no_letter = not-true _ both.1 }

-- the first byte of a pair is a symbol, and opens no comment with the second
pub record BeginsPair (a b : ℕ) : Type 0 where
  pub symbol : is_symbol a ≡ true
  pub no_block : (b == 42) ≡ false
  pub no_line : (b == 47) ≡ false

pub pair_begins : (a b : ℕ) → is_pair a b ≡ true → BeginsPair a b
pair_begins a b h =
    let all = pair_passes (λ x y. is_symbol x && (not (y == 42) && not (y == 47))) a b ((58, 61) ∷ (61, 62) ∷ (60, 62) ∷ (60, 61) ∷ (62, 61) ∷ []) refl h in
    let one = and_parts (is_symbol a) (not (b == 42) && not (b == 47)) all in
    let two = and_parts (not (b == 42)) (not (b == 47)) one.1 in
    record { symbol = one.0; no_block = not-true _ two.0; no_line = not-true _ two.1 }
