-- What comes again after so many scans comes again from then on.
use Rattle.std.proofs.Common.{◌≡◌, ◌∙◌, ℕ, ◌+◌, ◌-◌, ◌*◌, ◌<◌, ◌≤◌, ◌⊎◌, Bool, true, false, cond, sym, ap, subst, zero, suc, refl, arith, Some, None, inl, inr}
use Rattle.std.specs.Prelude.{find}
use Rattle.std.specs.List.{range_with_len}
use Rattle.std.proofs.Math.Nat.{mul-add}
use Rattle.std.proofs.lemmas.Bool.{cases_lt}
use Rattle.std.proofs.lemmas.Nat.{mul-le}
use Rattle.scan_held.specs.Holding.{moment_of}
use Rattle.scan_held.specs.declared.scans.Scans.{Scans}
use Rattle.scan_held.proofs.FirstScans.{some_none}

pub none_of : (p : ℕ → Bool) (a n : ℕ) → ((x : ℕ) → a ≤ x → p x ≡ false) → find p (range_with_len a n) ≡ None
none_of p a zero h = refl
none_of p a (suc n) h = rw (h a (omega arith)) (none_of p (a + 1) n (λ x l. h x (omega (arith, l))))

pub none_within : (p : ℕ → Bool) (a n x : ℕ) → find p (range_with_len a n) ≡ None → a ≤ x → x < a + n → p x ≡ false
none_within p a zero x h l m = absurd (omega (arith, l, m))
none_within p a (suc n) x h l m = here (p a) refl h (λ g behind. none_within p (a + 1) n x g behind (omega (arith, m)))
  where
    here : (b : Bool) → p a ≡ b → cond b (Some a) (find p (range_with_len (a + 1) n)) ≡ None
        → (find p (range_with_len (a + 1) n) ≡ None → a + 1 ≤ x → p x ≡ false) → p x ≡ false
    here true e g more = absurd (some_none g)
    here false e g more = elim (cases_lt a x) [
      | inl behind ↦ more g (omega (arith, behind))
      | inr not_behind ↦ let same : x ≡ a = omega (arith, l, not_behind) in ap p same ∙ e
    ]

-- ---- moments
module _ (first : ℕ) (s : Scans) (i k x : ℕ) where
  pub later_by : moment_of first s (x + k) ≡ moment_of first s x + s.every * k
  later_by = let e : s.every * (x + k) ≡ s.every * x + s.every * k = mul-add s.every x k in omega (arith, e)

  pub not_before : i ≤ x → moment_of first s (i - 1) ≤ moment_of first s x
  not_before l = omega (arith, mul-le s.every (i - 1) s.every x (omega arith) (omega (arith, l)))

-- ---- from the scan i on every k scans
module _ (Pair : ℕ → ℕ → Type 0) (on : ℕ → Bool) (i k : ℕ) (some : 0 < i) (period : 0 < k) (again : Pair i (i + k))
    (more : (x : ℕ) → i ≤ x → Pair x (x + k) → Pair (suc x) (suc (x + k))) (same : (x y : ℕ) → Pair x y → on y ≡ on x)
    (off : (n : ℕ) → 1 ≤ n → n ≤ i + k → on n ≡ false) where
  pairs : (n : ℕ) → Pair (i + n) (i + n + k)
  pairs zero =
      let a : i ≡ i + 0 = omega arith in
      subst (λ (x : ℕ). Pair x (x + k)) a again
  pairs (suc n) =
      let a : suc (i + n) ≡ i + suc n = omega arith in
      let b : suc (i + n + k) ≡ suc (i + n) + k = omega arith in
      subst (λ (x : ℕ). Pair x (x + k)) a (subst (λ (y : ℕ). Pair (suc (i + n)) y) b (more (i + n) (omega arith) (pairs n)))

  same_then : (x : ℕ) → i ≤ x → on (x + k) ≡ on x
  same_then x l =
      let a : i + (x - i) ≡ x = omega (arith, l) in
      same x (x + k) (subst (λ (z : ℕ). Pair z (z + k)) a (pairs (x - i)))

  pub off_below : (most n : ℕ) → n ≤ most → 1 ≤ n → on n ≡ false
  off_below zero n l one = absurd (omega (arith, l, one))
  off_below (suc most) n l one = elim (cases_lt (i + k) n) [
    | inl past ↦
        let a : n - k + k ≡ n = omega (arith, past) in
        ap on (sym a) ∙ same_then (n - k) (omega (arith, past)) ∙ off_below most (n - k) (omega (arith, l, period)) (omega (arith, past, some))
    | inr within ↦ off n one within
  ]

-- ---- marks
pub not_past : {A : Type 0} (old now new : A) (marked done m : ℕ) → ((m ≡ marked) × (new ≡ old)) ⊎ ((m ≡ done) × (new ≡ now)) → marked ≤ done → m ≤ done
not_past old now new marked done m (inl kept) l = omega (arith, l, kept.0)
not_past old now new marked done m (inr renewed) l = omega (arith, renewed.0)
