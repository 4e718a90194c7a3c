-- What holds where there is no answer.
use Rattle.std.proofs.Common.{IfNone, Option, Some, None}

pub if_none : {A : Type 0} (o : Option A) (P : Type 0) → P → IfNone o P
if_none None P h = h
if_none (Some x) P h = tt

pub onward_none : {A : Type 0} (o : Option A) (P Q : Type 0) → IfNone o P → (P → Q) → IfNone o Q
onward_none None P Q h f = f h
onward_none (Some x) P Q h f = tt
