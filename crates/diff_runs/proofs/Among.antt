-- The numbers of a range that pass a test.
use Rattle.std.proofs.Common.{◌≡◌, ◌∙◌, ap, arith, false, inl, inr, slice_get, subst, suc, sym, true, zero, ℕ, ◌+◌, ◌<◌, ◌≤◌, Bool, List, ◌∷◌, Some}
use Rattle.std.specs.Prelude.{filter}
use Rattle.std.specs.List.{range_with_len}
use Rattle.std.proofs.lemmas.Bool.{cases_Bool, cases_lt, cond-false, cond-true}
use Rattle.std.proofs.lemmas.Option.{same_Some}

first_or_later : (n v : ℕ) (rest : List ℕ) → ((k : ℕ) → slice_get rest k ≡ Some v → n + 1 ≤ v) → (k : ℕ) → slice_get (n ∷ rest) k ≡ Some v → n ≤ v
first_or_later n v rest later zero is = let same : n ≡ v = same_Some n v is in omega (arith, same)
first_or_later n v rest later (suc k) is = omega (arith, later k is)

module _ (p : ℕ → Bool) where
  pub taken : (n len : ℕ) → p n ≡ true → filter p (range_with_len n (suc len)) ≡ n ∷ filter p (range_with_len (n + 1) len)
  taken n len on = cond-true (p n) (n ∷ filter p (range_with_len (n + 1) len)) (filter p (range_with_len (n + 1) len)) on

  pub left_out : (n len : ℕ) → p n ≡ false → filter p (range_with_len n (suc len)) ≡ filter p (range_with_len (n + 1) len)
  left_out n len off = cond-false (p n) (n ∷ filter p (range_with_len (n + 1) len)) (filter p (range_with_len (n + 1) len)) off

  -- Each is from the first one on.
  pub from_first : (n len k v : ℕ) → slice_get (filter p (range_with_len n len)) k ≡ Some v → n ≤ v
  from_first n zero k v is = cc
  from_first n (suc len) k v is = elim (cases_Bool (p n)) [
    | inl on ↦
        first_or_later n v (filter p (range_with_len (n + 1) len)) (λ i. from_first (n + 1) len i v) k
        (subst (λ (xs : List ℕ). slice_get xs k ≡ Some v) (taken n len on) is)
    | inr off ↦ omega (arith, from_first (n + 1) len k v (subst (λ (xs : List ℕ). slice_get xs k ≡ Some v) (left_out n len off) is))
  ]

  later_one : (n len v : ℕ) → (k : ℕ) × (slice_get (filter p (range_with_len (n + 1) len)) k ≡ Some v)
      → (k : ℕ) × (slice_get (filter p (range_with_len n (suc len))) k ≡ Some v)
  later_one n len v rest = elim (cases_Bool (p n)) [
    | inl on ↦ (suc rest.0, subst (λ (xs : List ℕ). slice_get xs (suc rest.0) ≡ Some v) (sym (taken n len on)) rest.1)
    | inr off ↦ (rest.0, subst (λ (xs : List ℕ). slice_get xs rest.0 ≡ Some v) (sym (left_out n len off)) rest.1)
  ]

  -- Each number that passes is at a place among them.
  pub stands : (n len v : ℕ) → p v ≡ true → n ≤ v → v < n + len → (k : ℕ) × (slice_get (filter p (range_with_len n len)) k ≡ Some v)
  stands n zero v passes low high = absurd (omega (arith, low, high))
  stands n (suc len) v passes low high = elim (cases_lt n v) [
    | inl less ↦ later_one n len v (stands (n + 1) len v passes (omega (arith, less)) (omega (arith, high)))
    | inr last ↦
        let same : n ≡ v = omega (arith, low, last) in
        (0, subst (λ (xs : List ℕ). slice_get xs 0 ≡ Some v) (sym (taken n len (ap p same ∙ passes))) (ap (λ (i : ℕ). Some i) same))
  ]
