-- Equal results have equal values.
use Rattle.std.proofs.Common.{◌≡◌, Result, Ok}

pub same_ok : {A E : Type 0} {x y : A} → ◌≡◌ {A = Result A E} (Ok x) (Ok y) → x ≡ y
same_ok e = cc
