-- Pairs that are found one after the other, ascending in OLD's numbers.
use Rattle.std.proofs.Common.{◌≡◌, ◌+◌, ◌<◌, ◌++◌, ◌∷◌, ◌↔◌, ◌⊎◌, inl, inr, [], ℕ, List, Option, Some, None, ap₂, arith, option_map, refl, sym, subst}
use Rattle.std.specs.List.{Contains}
use Rattle.std.specs.Option.{option_to_list}
use Rattle.std.proofs.lemmas.Bool.{cases_lt}
use Rattle.std.proofs.lemmas.List.{append-nil}
use Rattle.std.proofs.lemmas.List.Elements.{All-nil, All-push, All-weaker, Contains-append_left, Contains-push}
use Rattle.std.proofs.lemmas.List.Quantifiers.{all_pairs_push}
use Rattle.diff_matching.specs.declared.matching.Pair.{Pair}
use Rattle.diff_matching.specs.Names.{AreAll}

abbrev pub pair : ℕ → ℕ → Pair
pair old new = record { old = old; new = new }

module _ (P : Pair → Type 0) where
  -- those of the first numbers of OLD
  abbrev pub Below : ℕ → Pair → Type 0
  Below i x = P x × (x.old < i)

  pub all_none : AreAll (Below 0) []
  all_none = record {
    each = All-nil (Below 0);
    all = λ x h. absurd (omega (arith, h.1));
    ascending = λ i j d less short. absurd (omega (arith, short));
  }

  last : (i : ℕ) (x : Pair) → x.old < i + 1 → (x.old < i) ⊎ (x.old ≡ i)
  last i x h = elim (cases_lt x.old i) [ inl less ↦ inl less | inr more ↦ inr (omega arith) ]

  skipped : (i : ℕ) (xs : List Pair) → ((n : ℕ) → P (pair i n) → ⊥) → AreAll (Below i) xs → AreAll (Below (i + 1)) xs
  skipped i xs none h = record {
    each = All-weaker (Below i) (Below (i + 1)) (λ x b. (b.0, omega (arith, b.1))) xs h.each;
    all = λ x b. elim (last i x b.1) [ inl less ↦ h.all x (b.0, less) | inr same ↦ absurd (none x.new (subst (λ n. P (pair n x.new)) same b.0)) ];
    ascending = h.ascending;
  }

  added : (i n : ℕ) (xs : List Pair) → P (pair i n) → ((k : ℕ) → P (pair i k) → n ≡ k) → AreAll (Below i) xs → AreAll (Below (i + 1)) (xs ++ pair i n ∷ [])
  added i n xs is only h = record {
    each = All-push (Below (i + 1)) xs (pair i n) (All-weaker (Below i) (Below (i + 1)) (λ x b. (b.0, omega (arith, b.1))) xs h.each) (is, omega arith);
    all = λ x b. elim (last i x b.1) [
      | inl less ↦ Contains-append_left xs (pair i n ∷ []) x (h.all x (b.0, less))
      | inr same ↦ (
          let here : n ≡ x.new = only x.new (subst (λ m. P (pair m x.new)) same b.0) in
          let whole : pair i n ≡ x = ap₂ pair (sym same) here in
          subst (λ y. Contains (xs ++ pair i n ∷ []) y) whole (Contains-push xs (pair i n))
          )
    ];
    ascending = all_pairs_push (λ x y. x.old < y.old) xs (pair i n) h.ascending (λ k d short. (h.each k d short).1);
  }

  -- one more number of OLD, with the number of NEW that belongs to it, if one does
  pub one_more : (i : ℕ) (found : Option ℕ) (xs : List Pair) → ((n : ℕ) → ((found ≡ Some n) ↔ P (pair i n))) → AreAll (Below i) xs
      → AreAll (Below (i + 1)) (xs ++ option_to_list (option_map (λ n. pair i n) found))
  one_more i None xs is h =
      let same : xs ++ [] ≡ xs = append-nil xs in
      rw same (skipped i xs (λ n p. let wrong = (is n).1 p in cc) h)
  one_more i (Some n) xs is h = added i n xs ((is n).0 refl) (λ k p. let same = (is k).1 p in cc) h

  -- all numbers of OLD
  pub all_found : (i : ℕ) (xs : List Pair) → ((x : Pair) → P x → x.old < i) → AreAll (Below i) xs → AreAll P xs
  all_found i xs within h = record {
    each = All-weaker (Below i) P (λ x b. b.0) xs h.each;
    all = λ x p. h.all x (p, within x p);
    ascending = h.ascending;
  }
