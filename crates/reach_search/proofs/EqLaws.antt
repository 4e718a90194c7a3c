-- What `==` says of lists of values, and of what is kept of instances: they are the same.
use Rattle.std.proofs.Common.{◌≡◌, ◌∙◌, ◌&&◌, Bool, true, false, not, List, [], ◌∷◌, refl, sym, ap, ap₂, arith}
use Rattle.std.proofs.lemmas.Grind.{common_steps}
use Rattle.std.specs.Cmp.Lexicographic.{pointwise}
use Rattle.scan_signals.specs.contracts.tri.TriPartialEq.TheImpl as tri_eq
use Rattle.scan_signals.specs.declared.tri.Tri.{Tri}
use Rattle.scan_signals.specs.declared.tri.Tri.TheVariants.{Off, On, Unsure}
use Rattle.scan_symbolic.specs.KnownScan.{Known}
use Rattle.reach_states.specs.contracts.untimed.UntimedPartialEq.TheImpl as untimed_eq
use Rattle.reach_states.specs.declared.untimed.Untimed.{Untimed}
use Rattle.reach_states.specs.declared.untimed.Untimed.TheVariants.{Timer, Counter, Output, Anything}

both_true : (a b : Bool) → (a && b) ≡ true → (a ≡ true) × (b ≡ true)
both_true true b e = (refl, e)
both_true false b e = cc

pub same_lists : {A : Type 0} {E : A → A → Bool} → ((a b : A) → E a b ≡ true → a ≡ b) → (xs ys : List A) → pointwise E xs ys ≡ true → xs ≡ ys
same_lists h [] [] e = refl
same_lists h [] (y ∷ ys) e = cc
same_lists h (x ∷ xs) [] e = cc
same_lists {E} h (x ∷ xs) (y ∷ ys) e = let both = both_true (E x y) (pointwise E xs ys) e in ap₂ (λ z zs. z ∷ zs) (h x y both.0) (same_lists h xs ys both.1)

-- by the answer of `==`, or of `!=`
pub same_by_eq : {A : Type 0} {E : A → A → Bool} → ((a b : A) → E a b ≡ true → a ≡ b) → (xs ys us vs : List A) → xs ≡ us → ys ≡ vs → (r : Bool) → r ≡ pointwise E xs ys → r ≡ true → us ≡ vs
same_by_eq h xs ys us vs e f r is holds = sym e ∙ same_lists h xs ys (sym is ∙ holds) ∙ f

not_false : (b : Bool) → not b ≡ false → b ≡ true
not_false true e = refl
not_false false e = cc

pub same_by_ne : {A : Type 0} {E : A → A → Bool} → ((a b : A) → E a b ≡ true → a ≡ b) → (xs ys us vs : List A) → xs ≡ us → ys ≡ vs → (r : Bool) → r ≡ not (pointwise E xs ys) → r ≡ false
    → us ≡ vs
same_by_ne {E} h xs ys us vs e f r is fails = sym e ∙ same_lists h xs ys (not_false (pointwise E xs ys) (sym is ∙ fails)) ∙ f

pub same_tri : (a b : Tri) → tri_eq.eq-value.it a b ≡ true → a ≡ b
same_tri On On e = refl
same_tri On Off e = cc
same_tri On Unsure e = cc
same_tri Off On e = cc
same_tri Off Off e = refl
same_tri Off Unsure e = cc
same_tri Unsure On e = cc
same_tri Unsure Off e = cc
same_tri Unsure Unsure e = refl

pub same_untimed : (a b : Untimed) → untimed_eq.eq-value.it a b ≡ true → a ≡ b
same_untimed (Timer last running elapsed q) (Timer last2 running2 elapsed2 q2) e = grind (arith, common_steps)
same_untimed (Timer last running elapsed q) (Counter last2 cv q2) e = cc
same_untimed (Timer last running elapsed q) (Output q2) e = cc
same_untimed (Timer last running elapsed q) Anything e = cc
same_untimed (Counter last cv q) (Timer last2 running2 elapsed2 q2) e = cc
same_untimed (Counter last cv q) (Counter last2 cv2 q2) e = grind (arith, common_steps)
same_untimed (Counter last cv q) (Output q2) e = cc
same_untimed (Counter last cv q) Anything e = cc
same_untimed (Output q) (Timer last2 running2 elapsed2 q2) e = cc
same_untimed (Output q) (Counter last2 cv2 q2) e = cc
same_untimed (Output q) (Output q2) e = ap Output (same_tri q q2 e)
same_untimed (Output q) Anything e = cc
same_untimed Anything (Timer last2 running2 elapsed2 q2) e = cc
same_untimed Anything (Counter last2 cv2 q2) e = cc
same_untimed Anything (Output q2) e = cc
same_untimed Anything Anything e = refl

known_of : List Tri → List Tri → List Untimed → Known Tri Untimed
known_of values memories blocks = record { values = values; memories = memories; blocks = blocks }

pub same_known : (a b : Known Tri Untimed) → a.values ≡ b.values → a.memories ≡ b.memories → a.blocks ≡ b.blocks → a ≡ b
unfolding known_of
same_known a b v m k = ap₂ (λ x y. known_of x y a.blocks) v m ∙ ap (known_of b.values b.memories) k
