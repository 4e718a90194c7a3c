-- Sets of rows.
use Rattle.std.proofs.Common.{◌≡◌, Bool, true, false, List, refl}
use Rattle.std.specs.Bool.{beq}
use Rattle.std.specs.Cmp.Lexicographic.{pointwise, pointwise_decides}

flags_same : (a b : Bool) → (beq a b ≡ true → a ≡ b) × (a ≡ b → beq a b ≡ true)
flags_same true true = (λ e. refl, λ e. refl)
flags_same true false = (λ e. cc, λ e. cc)
flags_same false true = (λ e. cc, λ e. cc)
flags_same false false = (λ e. refl, λ e. refl)

pub same_rows : (a b : List Bool) → pointwise beq a b ≡ true → a ≡ b
same_rows a b = (pointwise_decides flags_same a b).0
