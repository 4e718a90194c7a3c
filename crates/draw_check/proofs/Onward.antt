-- What holds of an answer, where it is there.
use Rattle.std.proofs.Common.{◌≡◌, subst, IfOk, IfSome, Option, Some, None, Result, Ok, Err}

pub onward : {A : Type 0} (o : Option A) (P Q : A → Type 0) → IfSome o P → ((x : A) → P x → Q x) → IfSome o Q
onward None P Q h f = tt
onward (Some x) P Q h f = f x h

pub onward_ok : {A E : Type 0} (r : Result (Option A) E) (P Q : A → Type 0) → IfOk r (λ o. IfSome o P) → ((x : A) → P x → Q x) → IfOk r (λ o. IfSome o Q)
onward_ok (Ok o) P Q h f = onward o P Q h f
onward_ok (Err e) P Q h f = tt

pub there : {A : Type 0} (o : Option A) (x : A) (P : A → Type 0) → o ≡ Some x → IfSome o P → P x
there o x P is h = subst (λ (y : _). IfSome y P) is h
