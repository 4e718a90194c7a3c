-- What the first inputs tell of an expression, and of the values that begin with them.
use Rattle.std.proofs.Common.{◌≡◌, ◌≢◌, ◌∙◌, ap, refl, subst, sym, ℕ, zero, suc, ◌+◌, ◌<◌, ◌≤◌, Bool, true, false, List, [], ◌∷◌, ◌++◌, length, Some, arith, append_assoc, append-nil}
use Rattle.std.specs.Prelude.{max}
use Rattle.scan_signals.specs.Relations.{AllowsAt, allows_kept}
use Rattle.scan_signals.specs.Three.{AnyTri, three, three_allows, three_inverse, three_join, three_known, three_meet}
use Rattle.scan_signals.specs.ThreeLaws.{three_allowed, three_lattice}
use Rattle.scan_signals.specs.Truth.{OnePlace, plain}
use Rattle.scan_signals.specs.declared.tri.Tri.{Tri}
use Rattle.scan_signals.specs.declared.tri.Tri.TheVariants.{Off, On, Unsure}
use Rattle.st_expression.specs.declared.expression.Operand.TheVariants.{Variable, Output}
use Rattle.st_expression.specs.declared.expression.Expression.{Expression}
use Rattle.st_expression.specs.declared.expression.Expression.TheVariants as tree
use Rattle.st_expression.specs.Value.{held}
use Rattle.assume_truth.specs.Operands.{is_named}
use Rattle.assume_truth.specs.Truth.{exclusive, is_allowed, truth}
use Rattle.assume_truth.proofs.Depending.{allowed_same}
use Rattle.assume_truth.proofs.Kept.{allowed_is, assumed_kept}
use Rattle.assume_possible.specs.Satisfiable.{IsSatisfiable, IsUnsatisfiableFrom, first_input}

-- ---- what is known holds of all values that begin so

first_allows : (known more : List Bool) (place : ℕ) → three_allows (first_input known place) 0 (held (known ++ more) place)
first_allows [] more place = tt
first_allows (true ∷ known) more zero = refl
first_allows (false ∷ known) more zero = refl
first_allows (b ∷ known) more (suc place) = first_allows known more place

pub truth_allows : (e : Expression) (known more : List Bool) → three_allows (truth three (first_input known) e) 0 (is_allowed (Some e) (known ++ more))
truth_allows e known more =
    let R = AllowsAt AnyTri OnePlace three_allows 0 in
    let r = assumed_kept three plain R (allows_kept AnyTri three OnePlace three_allows three_lattice three_allowed 0) (first_input known) (held (known ++ more))
    (λ place. (tt, λ _. first_allows known more place)) (Some e) in
    subst (λ b. three_allows (truth three (first_input known) e) 0 b) (allowed_is (known ++ more) (Some e)) (r.1 refl)

pub is_on : (e : Expression) (known : List Bool) → truth three (first_input known) e ≡ On → IsSatisfiable e
is_on e known h = (known ++ [], subst (λ t. three_allows t 0 (is_allowed (Some e) (known ++ []))) h (truth_allows e known []))

pub is_off : (e : Expression) (known : List Bool) → truth three (first_input known) e ≡ Off → IsUnsatisfiableFrom known e
is_off e known h = λ more. subst (λ t. three_allows t 0 (is_allowed (Some e) (known ++ more))) h (truth_allows e known more)

-- ---- no operand is at this place or behind it

pub bound : Expression → ℕ
bound (tree.Constant on) = 0
bound (tree.Operand (Variable place)) = place + 1
bound (tree.Operand (Output number)) = 0
bound (tree.Not' p a) = bound a
bound (tree.Equal' p a q b) = max (bound a) (bound b)
bound (tree.And' p a q b) = max (bound a) (bound b)
bound (tree.Exclusive' p a q b) = max (bound a) (bound b)
bound (tree.Or' p a q b) = max (bound a) (bound b)

abbrev IsKnown : Tri → Type 0
IsKnown x = (b : Bool) × (x ≡ three_known b)

inverse_known : (x : Tri) → IsKnown x → IsKnown (three_inverse x)
inverse_known x (true, e) = (false, ap three_inverse e)
inverse_known x (false, e) = (true, ap three_inverse e)

join_known : (x y : Tri) → IsKnown x → IsKnown y → IsKnown (three_join x y)
join_known x y (true, e) (b, f) = (true, ap (λ z. three_join z y) e)
join_known x y (false, e) (b, f) = (b, ap (λ z. three_join z y) e ∙ f)

meet_known : (x y : Tri) → IsKnown x → IsKnown y → IsKnown (three_meet x y)
meet_known x y (false, e) (b, f) = (false, ap (λ z. three_meet z y) e)
meet_known x y (true, e) (b, f) = (b, ap (λ z. three_meet z y) e ∙ f)

exclusive_known : (x y : Tri) → IsKnown x → IsKnown y → IsKnown (exclusive three x y)
exclusive_known x y (true, e) h =
    let i = inverse_known y h in
    (i.0, ap (λ z. exclusive three z y) e ∙ i.1)
exclusive_known x y (false, e) (b, f) = (b, ap (λ z. exclusive three z y) e ∙ f)

first_known : (known : List Bool) (place : ℕ) → place + 1 ≤ length known → IsKnown (first_input known place)
first_known [] place h = absurd (omega (arith, h))
first_known (b ∷ known) zero h = (b, refl)
first_known (b ∷ known) (suc place) h = first_known known place (omega (arith, h))

truth_known : (known : List Bool) (e : Expression) → bound e ≤ length known → IsKnown (truth three (first_input known) e)
unfolding truth bound
truth_known known (tree.Constant on) h = (on, refl)
truth_known known (tree.Operand (Variable place)) h = first_known known place h
truth_known known (tree.Operand (Output number)) h = (false, refl)
truth_known known (tree.Not' p a) h = inverse_known _ (truth_known known a h)
truth_known known (tree.Equal' p a q b) h =
    inverse_known _ (exclusive_known _ _ (truth_known known a (omega (arith, h))) (truth_known known b (omega (arith, h))))
truth_known known (tree.And' p a q b) h = meet_known _ _ (truth_known known a (omega (arith, h))) (truth_known known b (omega (arith, h)))
truth_known known (tree.Exclusive' p a q b) h = exclusive_known _ _ (truth_known known a (omega (arith, h))) (truth_known known b (omega (arith, h)))
truth_known known (tree.Or' p a q b) h = join_known _ _ (truth_known known a (omega (arith, h))) (truth_known known b (omega (arith, h)))

not_open : (x : Tri) → IsKnown x → x ≡ Unsure → ⊥
not_open x (true, e) h = cc
not_open x (false, e) h = cc

-- while the truth is open, there is an operand behind what is known
pub more_operands : (known : List Bool) (e : Expression) → truth three (first_input known) e ≡ Unsure → length known < bound e
more_operands known e h = by (bound e) (λ low. not_open _ (truth_known known e low) h)
  where
    by : (n : ℕ) → (n ≤ length known → ⊥) → length known < n
    by n higher = omega (arith, higher)

-- ---- the next input

held_longer : (known : List Bool) (place : ℕ) → held (known ++ false ∷ []) place ≡ held known place
held_longer [] zero = refl
held_longer [] (suc place) = refl
held_longer (b ∷ known) zero = refl
held_longer (b ∷ known) (suc place) = held_longer known place

held_but_at : (known more : List Bool) (place : ℕ) → place ≢ length known → held (known ++ true ∷ more) place ≡ held (known ++ false ∷ more) place
held_but_at [] more zero ne = absurd (ne refl)
held_but_at [] more (suc place) ne = refl
held_but_at (b ∷ known) more zero ne = refl
held_but_at (b ∷ known) more (suc place) ne = held_but_at known more place (λ e. ne (ap suc e))

after_one : (known more : List Bool) (b : Bool) → (known ++ b ∷ []) ++ more ≡ known ++ b ∷ more
after_one known more b = append_assoc known (b ∷ []) more

none_with : (e : Expression) (known : List Bool) (b : Bool) → IsUnsatisfiableFrom (known ++ b ∷ []) e → (more : List Bool) → is_allowed (Some e) (known ++ b ∷ more) ≡ false
none_with e known b h more = ap (λ xs. is_allowed (Some e) xs) (sym (after_one known more b)) ∙ h more

none_at_end : (e : Expression) (known : List Bool) → IsUnsatisfiableFrom (known ++ false ∷ []) e → is_allowed (Some e) (known ++ []) ≡ false
none_at_end e known h =
    ap (λ xs. is_allowed (Some e) xs) (append-nil known)
    ∙ sym (allowed_same (known ++ false ∷ []) known (Some e) (λ place _. held_longer known place))
    ∙ none_with e known false h []

-- with neither value of it
pub none_with_both : (e : Expression) (known : List Bool) → IsUnsatisfiableFrom (known ++ false ∷ []) e → IsUnsatisfiableFrom (known ++ true ∷ []) e → IsUnsatisfiableFrom known e
none_with_both e known off on [] = none_at_end e known off
none_with_both e known off on (false ∷ more) = none_with e known false off more
none_with_both e known off on (true ∷ more) = none_with e known true on more

-- nor, where the expression doesn't name it, with either
pub none_unnamed : (e : Expression) (known : List Bool) → is_named (Some e) (length known) ≡ false → IsUnsatisfiableFrom (known ++ false ∷ []) e → IsUnsatisfiableFrom known e
none_unnamed e known unnamed off [] = none_at_end e known off
none_unnamed e known unnamed off (false ∷ more) = none_with e known false off more
none_unnamed e known unnamed off (true ∷ more) =
    allowed_same (known ++ true ∷ more) (known ++ false ∷ more) (Some e)
    (λ place named. held_but_at known more place (λ same. false_true (sym (subst (λ n. is_named (Some e) n ≡ true) same named) ∙ unnamed)))
    ∙ none_with e known false off more
  where
    false_true : true ≡ false → ⊥
    false_true h = cc
