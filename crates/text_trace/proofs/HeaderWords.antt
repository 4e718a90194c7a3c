-- The words of a header, one after the other.
use Rattle.std.proofs.Common.{◌≡◌, ◌∙◌, ◌-◌, ◌<◌, ◌≤◌, ◌++◌, ◌∷◌, ◌==◌, [], ℕ, suc, zero, true, false, List, Some, inl, refl, sym, subst, ap, ap₂, arith, codes, drop, take, length, map, slice_get, get_or}
use Rattle.std.specs.List.{AllByRecursion, Contains, IsDistinct, list_any}
use Rattle.std.proofs.lemmas.Cmp.{nat_eq_equiv}
use Rattle.std.proofs.lemmas.List.{map-append}
use Rattle.std.proofs.lemmas.Map.Views.{Contains-from_any, exact_unsigned_eq}
use Rattle.std.proofs.lemmas.Bool.{or_parts}
use Rattle.std.proofs.lemmas.Option.{same_Some}
use Rattle.csv.specs.Records.{field_at}
use Rattle.io_text.specs.Left.{Fields}
use Rattle.diagram_declarations.specs.Decls.{Declared}
use Rattle.text_trace.specs.Simulation.{IsBadHeader}
use Rattle.text_trace.specs.Stimulus.{IsHeader, input_named}

pub is_headed : (fs : Fields) → field_at fs 0 ≡ Some (codes "moment") → fs ≡ codes "moment" ∷ drop 1 fs
unfolding field_at
is_headed [] e = cc
is_headed (f ∷ fs) e = ap (λ x. x ∷ fs) (same_Some _ _ e)

headed : (fs : Fields) (word : List ℕ) → slice_get fs 0 ≡ Some word → word ≡ codes "moment" → (field_at fs 0 ≡ Some (codes "moment") → ⊥) → ⊥
unfolding field_at
headed [] word there same e = cc
headed (f ∷ fs) word there same e = e (there ∙ ap Some same)

pub bad_first : (d : Declared) (fs : Fields) (rows : List Fields) → (field_at fs 0 ≡ Some (codes "moment") → ⊥) → IsBadHeader d (fs ∷ rows)
bad_first d fs rows e = inl (λ (r, here, (word, there, same)). headed fs word (subst (λ (x : Fields). slice_get x 0 ≡ Some word) (sym (same_Some _ _ here)) there) same e)

-- the words name the inputs at these places, no two the same
pub record AreColumns (d : Declared) (words : List (List ℕ)) (columns : List ℕ) : Type 0 where
  pub named : map (input_named d) words ≡ map Some columns
  pub distinct : IsDistinct (λ (a b : ℕ). a == b) columns

-- all words of a header
pub header_with : (d : Declared) (fs words : Fields) (columns : List ℕ) → fs ≡ codes "moment" ∷ words → AreColumns d words columns → IsHeader d fs columns
header_with d fs words columns e k = record { words = words; same = e; named = k.named; distinct = k.distinct }

-- the fields before a place, of which the first is the word for the moment
pub header_to : (d : Declared) (fs : Fields) (number : ℕ) (columns : List ℕ) → fs ≡ codes "moment" ∷ drop 1 fs → 1 ≤ number → AreColumns d (take (number - 1) (drop 1 fs)) columns
    → IsHeader d (take number fs) columns
header_to d [] number columns e h k = cc
header_to d (f ∷ fs) zero columns e h k = absurd (omega (arith, h))
header_to d (f ∷ fs) (suc n) columns e h k =
    let first : f ≡ codes "moment" = cc in
    let at : suc n - 1 ≡ n = omega arith in
    header_with d (f ∷ take n fs) (take n fs) columns (ap (λ x. x ∷ take n fs) first) (subst (λ i. AreColumns d (take i fs) columns) at k)

pub contains : (c : ℕ) (xs : List ℕ) → list_any (λ k. c == k) xs ≡ true → Contains xs c
contains c xs h = Contains-from_any {eq = λ (a b : ℕ). a == b} (λ x y e. exact_unsigned_eq x y e) c xs h

-- the word at a place
pub word_at : (fs : Fields) (number : ℕ) → number < length fs → 0 < number → slice_get (drop 1 fs) (number - 1) ≡ Some (get_or fs number [])
word_at [] number h k = absurd (omega (arith, h))
word_at (f ∷ fs) zero h k = absurd (omega (arith, k))
word_at (f ∷ fs) (suc number) h k = let at : suc number - 1 ≡ number = omega arith in ap (slice_get fs) at ∙ there fs number (omega (arith, h))
  where
    there : (xs : Fields) (i : ℕ) → i < length xs → slice_get xs i ≡ Some (get_or xs i [])
    there [] i g = absurd (omega (arith, g))
    there (x ∷ xs) zero g = refl
    there (x ∷ xs) (suc i) g = there xs i (omega (arith, g))

pub columns_none : (d : Declared) → AreColumns d [] []
unfolding IsDistinct
columns_none d = record { named = refl; distinct = tt }

take_one : (words : Fields) (i : ℕ) (w : List ℕ) → slice_get words i ≡ Some w → take (suc i) words ≡ take i words ++ w ∷ []
take_one [] i w e = cc
take_one (x ∷ words) zero w e = let same : x ≡ w = cc in ap (λ z. z ∷ []) same
take_one (x ∷ words) (suc i) w e = ap (λ l. x ∷ l) (take_one words i w e)

apart_more : (x : ℕ) (xs : List ℕ) (y : ℕ) → AllByRecursion (λ z. (x == z) ≡ false) xs → (x == y) ≡ false → AllByRecursion (λ z. (x == z) ≡ false) (xs ++ y ∷ [])
apart_more x [] y h e = (e, tt)
apart_more x (z ∷ xs) y h e = (h.0, apart_more x xs y h.1 e)

-- one element more, which is none of the others
distinct_more : (xs : List ℕ) (y : ℕ) → IsDistinct (λ (a b : ℕ). a == b) xs → list_any (λ c. y == c) xs ≡ false → IsDistinct (λ (a b : ℕ). a == b) (xs ++ y ∷ [])
unfolding IsDistinct
distinct_more [] y h e = (tt, tt)
distinct_more (x ∷ xs) y h e =
    let parts = or_parts (y == x) (list_any (λ c. y == c) xs) e in
    (apart_more x xs y h.0 (nat_eq_equiv.symm x y ∙ parts.0), distinct_more xs y h.1 parts.1)

-- one word more
pub columns_more : (d : Declared) (words : Fields) (columns : List ℕ) (i : ℕ) (w : List ℕ) (place : ℕ) → AreColumns d (take i words) columns → slice_get words i ≡ Some w
    → input_named d w ≡ Some place → list_any (λ c. place == c) columns ≡ false → AreColumns d (take (suc i) words) (columns ++ place ∷ [])
columns_more d words columns i w place h here named fresh = record {
  named =
      ap (map (input_named d)) (take_one words i w here)
      ∙ map-append (input_named d) (take i words) (w ∷ [])
      ∙ ap₂ (λ a b. a ++ b ∷ []) h.named named
      ∙ sym (map-append Some columns (place ∷ []));
  distinct = distinct_more columns place h.distinct fresh;
}
