-- The claims that removing begins with: what each is in a state, and nothing of inputs.
use Rattle.std.proofs.Common.{◌≡◌, ◌∙◌, ◌<◌, ◌⊎◌, inl, inr, ℕ, Bool, true, false, List, [], ◌∷◌, length, zero, suc, refl, sym, ap, arith, if◌then◌else◌}
use Rattle.scan_signals.specs.Three.{three_known}
use Rattle.scan_signals.specs.declared.tri.Tri.{Tri}
use Rattle.scan_signals.specs.declared.tri.Tri.TheVariants.{Unsure}
use Rattle.invariant_sets.specs.Never.{claims}
use Rattle.invariant_sets.proofs.Claims.{claim_within}
use Rattle.invariant_cases.proofs.Values.{on_off, same_value, unsure_known}

value_of : (flag v value : Bool) (t : Tri) → t ≡ (if flag then Unsure else three_known v) → t ≡ three_known value → v ≡ value
value_of true v value t e f = absurd (unsure_known value (sym e ∙ f))
value_of false v value t e f = same_value v value (sym e ∙ f)

none_of : (flag v : Bool) (t : Tri) → t ≡ (if flag then Unsure else three_known v) → flag ≡ true → t ≡ Unsure
none_of true v t e f = e
none_of false v t e f = absurd (on_off (sym f))

claim_of : (flag v value : Bool) (t u : Tri) → t ≡ (if flag then Unsure else three_known v) → (flag ≡ true → u ≡ Unsure) → u ≡ three_known value → v ≡ value → t ≡ three_known value
claim_of true v value t u e none m f = absurd (unsure_known value (sym (none refl) ∙ m))
claim_of false v value t u e none m f = e ∙ ap three_known f

within_or : (bits : List Tri) (i : ℕ) → (i < length bits) ⊎ (claims bits i ≡ Unsure)
within_or [] i = inr refl
within_or (t ∷ bits) zero = inl (omega arith)
within_or (t ∷ bits) (suc i) = elim (within_or bits i) [
  | inl l ↦ inl (omega (arith, l))
  | inr e ↦ inr e
]

module _ (is_input is_on : ℕ → Bool) (bits : List Tri) (begun : (i : ℕ) → i < length bits → claims bits i ≡ (if is_input i then Unsure else three_known (is_on i))) where
  pub begun_no_input : (i : ℕ) → is_input i ≡ true → claims bits i ≡ Unsure
  begun_no_input i f = elim (within_or bits i) [
    | inl l ↦ none_of (is_input i) (is_on i) (claims bits i) (begun i l) f
    | inr e ↦ e
  ]

  pub begun_so : (i : ℕ) (value : Bool) → claims bits i ≡ three_known value → is_on i ≡ value
  begun_so i value m = value_of (is_input i) (is_on i) value (claims bits i) (begun i (claim_within bits i value m)) m

  pub begun_most : (other : List Tri) → length other ≡ length bits → ((i : ℕ) → is_input i ≡ true → claims other i ≡ Unsure)
      → ((i : ℕ) (value : Bool) → claims other i ≡ three_known value → is_on i ≡ value) → (i : ℕ) (value : Bool) → claims other i ≡ three_known value → claims bits i ≡ three_known value
  begun_most other many none so i value m =
      let l = claim_within other i value m in
      claim_of (is_input i) (is_on i) value (claims bits i) (claims other i) (begun i (omega (arith, many, l))) (none i) m (so i value m)
