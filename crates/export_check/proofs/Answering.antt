-- What holds of a result, where it is there.
use Rattle.std.proofs.Common.{IfOk, Result, Ok, Err}

pub answers_on : {A E : Type 0} (r : Result A E) (P Q : A → Type 0) → IfOk r P → ((x : A) → P x → Q x) → IfOk r Q
answers_on (Ok x) P Q h f = f x h
answers_on (Err e) P Q h f = tt
