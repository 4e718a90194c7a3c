-- An input that is open is ON or OFF.
use Rattle.std.proofs.Common.{◌≡◌, ◌∙◌, ◌⊎◌, inl, inr, ℕ, zero, suc, Bool, true, false, List, [], ◌∷◌, get_or, set, refl, ap, sym}
use Rattle.std.proofs.lemmas.List.{set-get_or, set-set}
use Rattle.scan_signals.specs.Relations.{Both}
use Rattle.scan_signals.specs.declared.tri.Tri.{Tri}
use Rattle.scan_signals.specs.declared.tri.Tri.TheVariants.{Off, On, Unsure}
use Rattle.invariant_cases.specs.Allowing.{Allows}

either_value : (b : Bool) → (Allows Off b) ⊎ (Allows On b)
either_value true = inr (tt, λ _. refl)
either_value false = inl (tt, λ _. refl)

pub either_input : (inputs : List Tri) (xs : List Bool) (i : ℕ) → Both Allows inputs xs → (Both Allows (set inputs i Off) xs) ⊎ (Both Allows (set inputs i On) xs)
either_input [] [] i h = inl tt
either_input [] (b ∷ xs) i h = absurd h
either_input (x ∷ inputs) [] i h = absurd h
either_input (x ∷ inputs) (b ∷ xs) zero h = elim (either_value b) [ inl a ↦ inl (a, h.1) | inr a ↦ inr (a, h.1) ]
either_input (x ∷ inputs) (b ∷ xs) (suc i) h = elim (either_input inputs xs i h.1) [ inl s ↦ inl (h.0, s) | inr s ↦ inr (h.0, s) ]

-- a value that was written over is back
pub put_back : (xs ys zs : List Tri) (i : ℕ) → get_or xs i Off ≡ Unsure → ys ≡ set xs i Off → zs ≡ set ys i On → set zs i Unsure ≡ xs
put_back xs ys zs i unsure one two =
    ap (λ l. set l i Unsure) two ∙ set-set ys i On Unsure ∙ ap (λ l. set l i Unsure) one ∙ set-set xs i Off Unsure
    ∙ ap (set xs i) (sym unsure) ∙ set-get_or xs i Off

pub put_back_first : (xs ys : List Tri) (i : ℕ) → get_or xs i Off ≡ Unsure → ys ≡ set xs i Off → set ys i Unsure ≡ xs
put_back_first xs ys i unsure one = ap (λ l. set l i Unsure) one ∙ set-set xs i Off Unsure ∙ ap (set xs i) (sym unsure) ∙ set-get_or xs i Off

pub put_on : (xs ys : List Tri) (i : ℕ) → ys ≡ set xs i Off → set ys i On ≡ set xs i On
put_on xs ys i one = ap (λ l. set l i On) one ∙ set-set xs i Off On
