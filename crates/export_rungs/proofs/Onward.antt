-- What holds of an answer, where it is there.
use Rattle.std.proofs.Common.{IfOk, Result, Ok, Err}

pub onward_ok : {A E : Type 0} (r : Result A E) (P Q : A → Type 0) → IfOk r P → ((x : A) → P x → Q x) → IfOk r Q
onward_ok (Ok x) P Q h f = f x h
onward_ok (Err e) P Q h f = tt
