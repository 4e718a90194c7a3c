-- Values that are known.
use Rattle.std.proofs.Common.{◌≡◌, ℕ, Bool, true, false, not, List, [], ◌∷◌, get_or, length, zero, suc, refl, arith}
use Rattle.scan_signals.specs.Three.{three_known}
use Rattle.scan_signals.specs.declared.tri.Tri.{Tri}
use Rattle.scan_signals.specs.declared.tri.Tri.TheVariants.{Off, On, Unsure}

pub on_off : true ≡ false → ⊥
on_off e = cc

pub unsure_known : (value : Bool) → Unsure ≡ three_known value → ⊥
unsure_known true e = cc
unsure_known false e = cc

pub same_value : (v value : Bool) → three_known v ≡ three_known value → v ≡ value
same_value true true e = refl
same_value true false e = cc
same_value false true e = cc
same_value false false e = refl

pub off_known : (value : Bool) → not value ≡ true → Off ≡ three_known value
off_known true e = cc
off_known false e = refl

pub on_known : (value : Bool) → value ≡ true → On ≡ three_known value
on_known true e = refl
on_known false e = cc

pub is_off : (value : Bool) → Off ≡ three_known value → not value ≡ true
is_off true e = cc
is_off false e = refl

pub is_on : (value : Bool) → On ≡ three_known value → value ≡ true
is_on true e = refl
is_on false e = cc

-- where something is known, it is the same with any other value past the end
pub known_within : (xs : List Tri) (i : ℕ) (value : Bool) (d : Tri) → get_or xs i Unsure ≡ three_known value → get_or xs i d ≡ three_known value
known_within [] i value d e = absurd (unsure_known value e)
known_within (x ∷ xs) zero value d e = e
known_within (x ∷ xs) (suc i) value d e = known_within xs i value d e

-- what is known where a list as long claims something, with any value past the end
pub known_beside : (bits xs : List Tri) (i : ℕ) (value : Bool) (d : Tri) → length xs ≡ length bits → get_or bits i Unsure ≡ three_known value
    → get_or xs i d ≡ three_known value → get_or xs i Unsure ≡ three_known value
known_beside [] xs i value d h m e = absurd (unsure_known value m)
known_beside (t ∷ bits) [] i value d h m e = absurd (omega (arith, h))
known_beside (t ∷ bits) (x ∷ xs) zero value d h m e = e
known_beside (t ∷ bits) (x ∷ xs) (suc i) value d h m e = known_beside bits xs i value d (omega (arith, h)) m e
