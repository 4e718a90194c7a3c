-- What is known of an expression over inputs that are open in part is so for all completions of them.
use Rattle.std.proofs.Common.{◌≡◌, ◌∙◌, ℕ, zero, suc, Bool, false, List, [], ◌∷◌, Option, Some, inl, inr, refl, set, subst, sym}
use Rattle.st_expression.specs.declared.expression.Expression.{Expression}
use Rattle.st_expression.specs.Value.{held}
use Rattle.scan_signals.specs.Relations.{Both, allows_kept}
use Rattle.scan_signals.specs.Three.{AnyTri, three, three_allows}
use Rattle.scan_signals.specs.ThreeLaws.{three_allowed, three_lattice}
use Rattle.scan_signals.specs.Truth.{OnePlace, plain}
use Rattle.scan_signals.specs.declared.tri.Tri.{Tri}
use Rattle.scan_signals.specs.declared.tri.Tri.TheVariants.{Off, On}
use Rattle.assume_truth.specs.Truth.{is_allowed, truth}
use Rattle.assume_truth.proofs.Kept.{allowed_is, assumed_kept}
use Rattle.invariant_cases.specs.Allowing.{Allows}
use Rattle.reach_search.specs.Inputs.{known_input}
use Rattle.reach_search.proofs.InputLaws.{either_input, put_on}

allowed_at : (inputs : List Tri) (xs : List Bool) → Both Allows inputs xs → (i : ℕ) → Allows (known_input inputs i) (held xs i)
allowed_at [] [] b i = (tt, λ _. refl)
allowed_at [] (x ∷ xs) b i = absurd b
allowed_at (t ∷ inputs) [] b i = absurd b
allowed_at (t ∷ inputs) (x ∷ xs) b zero = b.0
allowed_at (t ∷ inputs) (x ∷ xs) b (suc i) = allowed_at inputs xs b.1 i

known_off : (x : Tri) (b : Bool) → Allows x b → x ≡ Off → b ≡ false
known_off x b allows e = subst (λ (y : Tri). three_allows y 0 b) e (allows.1 refl)

-- Where it is OFF, it is false with each completion.
pub off_is_false : (e : Expression) (inputs : List Tri) → truth three (known_input inputs) e ≡ Off → (xs : List Bool) → Both Allows inputs xs
    → is_allowed (Some e) xs ≡ false
off_is_false e inputs off xs b =
    let kept = assumed_kept three plain Allows (allows_kept AnyTri three OnePlace three_allows three_lattice three_allowed 0) (known_input inputs) (held xs) (allowed_at inputs xs b) (Some e) in
    sym (allowed_is xs (Some e)) ∙ known_off (truth three (known_input inputs) e) (truth plain (held xs) e) kept off

-- With each completion it is false where it is with those of both values of an input.
pub false_either : (assumed : Option Expression) (inputs other : List Tri) (i : ℕ) → other ≡ set inputs i Off
    → ((xs : List Bool) → Both Allows (set inputs i Off) xs → is_allowed assumed xs ≡ false) → ((xs : List Bool) → Both Allows (set other i On) xs → is_allowed assumed xs ≡ false)
    → (xs : List Bool) → Both Allows inputs xs → is_allowed assumed xs ≡ false
false_either assumed inputs other i same off on xs b = elim (either_input inputs xs i b) [
  | inl s ↦ off xs s
  | inr s ↦ on xs (subst (λ (known : List Tri). Both Allows known xs) (sym (put_on inputs other i same)) s)
]
