-- What is left of a list of claims, one by one.
use Rattle.std.proofs.Common.{◌≡◌, ◌≢◌, ◌∙◌, ◌<◌, ◌≤◌, ◌+◌, ◌⊎◌, inl, inr, ℕ, Bool, true, false, cond, List, [], ◌∷◌, get_or, length, set, zero, suc, refl, sym, ap, subst, arith}
use Rattle.std.proofs.lemmas.List.{get_or_default, get_or-set_other, get_or-set_same, length-set}
use Rattle.std.proofs.lemmas.List.Sums.{sum_by-set}
use Rattle.scan_signals.specs.Three.{three_known}
use Rattle.scan_signals.specs.declared.tri.Tri.{Tri}
use Rattle.scan_signals.specs.declared.tri.Tri.TheVariants.{Off, On, Unsure}
use Rattle.invariant_sets.specs.Never.{claims}
use Rattle.invariant_sets.specs.Removing.{IsLeftBy, IsLeftSoFar, is_claim, members}
use Rattle.invariant_cases.proofs.Values.{unsure_known}

none_past : (xs : List Tri) (i : ℕ) → length xs ≤ i → get_or xs i Unsure ≡ Unsure
none_past [] i h = refl
none_past (x ∷ xs) zero h = absurd (omega (arith, h))
none_past (x ∷ xs) (suc i) h = none_past xs i (omega (arith, h))

some_claim : (t : Tri) → (t ≡ Unsure → ⊥) → is_claim t ≡ true
some_claim Off f = refl
some_claim On f = refl
some_claim Unsure f = absurd (f refl)

one_less : (xs : List Tri) (n : ℕ) → n < length xs → is_claim (get_or xs n Unsure) ≡ true → members (set xs n Unsure) + 1 ≡ members xs
one_less xs n within e =
    let one = λ (b : Bool). cond {A = ℕ} b 1 0 in
    omega (arith, ap one e, sum_by-set (λ (t : Tri). one (is_claim t)) xs n Unsure Unsure within)

below_or : (i n : ℕ) → (i < n) ⊎ (n ≤ i)
below_or i n = grind arith

next_or : (i n : ℕ) → i < n + 1 → (i < n) ⊎ (i ≡ n)
next_or i n h = grind (arith, h)

here_or : (i n : ℕ) → (i ≢ n) ⊎ (i ≡ n)
here_or i n = grind arith

other : (i n : ℕ) → i < n → i ≢ n
other i n h e = omega (arith, h, e)

-- nothing is claimed where a claim was dropped
dropped : (xs : List Tri) (n i : ℕ) (value : Bool) → n < length xs → i ≡ n → claims (set xs n Unsure) i ≡ three_known value → ⊥
dropped xs n i value within e h = unsure_known value (sym (get_or-set_same xs n Unsure Unsure within) ∙ sym (ap (λ j. claims (set xs n Unsure) j) e) ∙ h)

true_false : true ≡ false → ⊥
true_false e = cc

module _ (telling : ℕ → Tri) (P : ℕ → Bool → Type 0) where
  pub none_tried : (bits : List Tri) → IsLeftSoFar telling P bits bits 0 0
  none_tried bits = record {
    within = λ i value h. h;
    holds = λ i value h e. absurd (omega (arith, h));
    kept = λ i value h t. h;
    length = refl;
    count = omega arith;
    same = λ h. refl;
  }

  pub all_tried : (bits left : List Tri) (removed n : ℕ) → IsLeftSoFar telling P bits left removed n → length left ≤ n → IsLeftBy telling P bits left removed
  all_tried bits left removed n so h = record {
    within = so.within;
    holds = λ i value e. elim (below_or i n) [
      | inl l ↦ so.holds i value l e
      | inr g ↦ absurd (unsure_known value (sym (none_past left i (omega (arith, h, g))) ∙ e))
    ];
    kept = so.kept;
    length = so.length;
    count = so.count;
    same = so.same;
  }

  pub one_stays : (bits left : List Tri) (removed n : ℕ) → IsLeftSoFar telling P bits left removed n → ((value : Bool) → claims left n ≡ three_known value → P n value)
      → IsLeftSoFar telling P bits left removed (n + 1)
  one_stays bits left removed n so p = record {
    within = so.within;
    holds = λ i value h e. elim (next_or i n h) [
      | inl l ↦ so.holds i value l e
      | inr g ↦ subst (λ (j : ℕ). P j value) (sym g) (p value (subst (λ (j : ℕ). claims left j ≡ three_known value) g e))
    ];
    kept = so.kept;
    length = so.length;
    count = so.count;
    same = so.same;
  }

  pub one_goes : (bits left : List Tri) (removed n : ℕ) → IsLeftSoFar telling P bits left removed n → (claims left n ≡ Unsure → ⊥) → (telling n ≡ claims left n → ⊥)
      → n < length left → IsLeftSoFar telling P bits (set left n Unsure) (removed + 1) (n + 1)
  one_goes bits left removed n so claimed untold within = record {
    within = λ i value h. elim (here_or i n) [
      | inl l ↦ so.within i value (sym (get_or-set_other left n i Unsure Unsure l) ∙ h)
      | inr g ↦ absurd (dropped left n i value within g h)
    ];
    holds = λ i value h f. elim (next_or i n h) [
      | inl l ↦ so.holds i value l (sym (get_or-set_other left n i Unsure Unsure (other i n l)) ∙ f)
      | inr g ↦ absurd (dropped left n i value within g f)
    ];
    kept = λ i value h f. elim (here_or i n) [
      | inl l ↦ get_or-set_other left n i Unsure Unsure l ∙ so.kept i value h f
      | inr g ↦ absurd (untold (subst (λ (j : ℕ). telling j ≡ claims left j) g (f ∙ sym (so.kept i value h f))))
    ];
    length = length-set left n Unsure ∙ so.length;
    count = omega (arith, one_less left n within (some_claim (claims left n) claimed), so.count);
    same = λ h. absurd (omega (arith, h));
  }

  -- by whether the claim at hand is kept, read with any value past the end
  pub claim_stays : (bits left : List Tri) (removed n : ℕ) → IsLeftSoFar telling P bits left removed n → n < length left → (keeps : Bool) → keeps ≡ true → (d : Tri)
      → (keeps ≡ true → (value : Bool) → get_or left n d ≡ three_known value → P n value) → IsLeftSoFar telling P bits left removed (n + 1)
  claim_stays bits left removed n so within keeps kept d stays =
      one_stays bits left removed n so (λ value m. stays kept value (get_or_default left n d Unsure within ∙ m))

  pub claim_goes : (bits left : List Tri) (removed n : ℕ) → IsLeftSoFar telling P bits left removed n → n < length left → (keeps : Bool) → keeps ≡ false → (d : Tri)
      → (telling n ≡ get_or left n d → keeps ≡ true) → (get_or left n d ≡ Unsure → keeps ≡ true) → IsLeftSoFar telling P bits (set left n Unsure) (removed + 1) (n + 1)
  claim_goes bits left removed n so within keeps gone d told none =
      let there = get_or_default left n d Unsure within in
      one_goes bits left removed n so (λ e. true_false (sym (none (there ∙ e)) ∙ gone)) (λ e. true_false (sym (told (e ∙ sym there)) ∙ gone)) within

  pub same_left : (bits xs ys : List Tri) (m n k : ℕ) → xs ≡ ys → m ≡ n → IsLeftSoFar telling P bits ys n k → IsLeftSoFar telling P bits xs m k
  same_left bits xs ys m n k e f so =
      subst (λ (zs : List Tri). IsLeftSoFar telling P bits zs m k) (sym e) (subst (λ (l : ℕ). IsLeftSoFar telling P bits ys l k) (sym f) so)

pub moved : (xs ys : List Tri) (i : ℕ) (value : Bool) → xs ≡ ys → claims xs i ≡ three_known value → claims ys i ≡ three_known value
moved xs ys i value e h = subst (λ (zs : List Tri). claims zs i ≡ three_known value) e h
