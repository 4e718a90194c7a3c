-- Private: whether something holds, told by whether its parts do. Tactics prove equations and contradictions here, and choose no answer.
use Rattle.std.proofs.Common.{◌≡◌, ◌<◌, ◌≤◌, ◌+◌, ◌==◌, ◌⊎◌, ◌↔◌, inl, inr, ⊎_elim, ℕ, zero, suc, Bool, true, false, Option, Some, None, IsSomeAnd, refl, sym, subst, arith, add-one}
use Rattle.std.proofs.lemmas.Bool.{cases_lt, eq-eqb, eqb-true, true≢false}
use Rattle.text_warnings.specs.Below.{SomeBelow}

pub alike : {A B : Type 0} → A ↔ B → Dec A → Dec B
alike e (yes a) = yes (e.0 a)
alike e (no a) = no (λ b. a (e.1 b))

pub both : {A B : Type 0} → Dec A → Dec B → Dec (A × B)
both (yes a) (yes b) = yes (a, b)
both (yes a) (no b) = no (λ h. b h.1)
both (no a) b = no (λ h. a h.0)

pub three : {A B C : Type 0} → Dec A → Dec B → Dec C → Dec (A × B × C)
three a b c = alike (λ h. (h.0, h.1.0, h.1.1), λ h. (h.0, (h.1, h.2))) (both a (both b c))

pub four : {A B C D : Type 0} → Dec A → Dec B → Dec C → Dec D → Dec (A × B × C × D)
four a b c d = alike (λ h. (h.0, h.1.0, h.1.1, h.1.2), λ h. (h.0, (h.1, h.2, h.3))) (both a (three b c d))

pub five : {A B C D E : Type 0} → Dec A → Dec B → Dec C → Dec D → Dec E → Dec (A × B × C × D × E)
five a b c d e = alike (λ h. (h.0, h.1.0, h.1.1, h.1.2, h.1.3), λ h. (h.0, (h.1, h.2, h.3, h.4))) (both a (four b c d e))

pub either : {A B : Type 0} → Dec A → Dec B → Dec (A ⊎ B)
either (yes a) b = yes (inl a)
either (no a) (yes b) = yes (inr b)
either (no a) (no b) = no (λ h. ⊎_elim a b h)

pub neither : {A : Type 0} → Dec A → Dec (A → ⊥)
neither (yes a) = no (λ h. h a)
neither (no a) = yes a

pub is_on : (b : Bool) → Dec (b ≡ true)
is_on true = yes refl
is_on false = no (λ h. true≢false (sym h))

pub is_off : (b : Bool) → Dec (b ≡ false)
is_off true = no true≢false
is_off false = yes refl

pub is_below : (a b : ℕ) → Dec (a < b)
is_below a b = ⊎_elim (λ (l : a < b). yes l) (λ (g : b ≤ a). no (λ l. omega (arith, g, l))) (cases_lt a b)

pub is_equal : (a b : ℕ) → Dec (a ≡ b)
is_equal a b = alike (eqb-true a b, eq-eqb a b) (is_on (a == b))

pub is_some_and : {A : Type 0} (o : Option A) (Holds : A → Type 0) → ((x : A) → Dec (Holds x)) → Dec (IsSomeAnd o Holds)
is_some_and None Holds each = no (λ h. h)
is_some_and (Some x) Holds each = each x

-- ---- numbers below a bound

-- one number more
pub next_below : (Such : ℕ → Type 0) (n : ℕ) → (SomeBelow n Such ⊎ Such n) ↔ SomeBelow (n + 1) Such
next_below Such n = (
  λ h. ⊎_elim (λ (b : SomeBelow n Such). (b.0, omega (arith, b.1), b.2)) (λ (s : Such n). (n, omega arith, s)) h,
  λ h. ⊎_elim (λ (l : h.0 < n). inl (h.0, l, h.2)) (λ (l : n ≤ h.0). let e : h.0 ≡ n = omega (arith, l, h.1) in inr (subst Such e h.2)) (cases_lt h.0 n),
)

pub some_below : (Such : ℕ → Type 0) (n : ℕ) → ((k : ℕ) → k < n → Dec (Such k)) → Dec (SomeBelow n Such)
some_below Such zero each = no (λ h. omega (arith, h.1))
some_below Such (suc n) each = rw (sym (add-one n)) (alike (next_below Such n) (either (some_below Such n (λ k l. each k (omega (arith, l)))) (each n (omega arith))))
