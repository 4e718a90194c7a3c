-- Truth values as a signal: one place, at which each allows just itself.
use Rattle.std.specs.Prelude.{◌≡◌, ℕ, Bool, not, ◌&&◌, ◌||◌, if◌then◌else◌}
use Rattle.scan_signals.specs.Algebra.{Algebra}

abbrev pub plain : Algebra Bool
plain = record { known = λ b. b; join = λ x y. x || y; meet = λ x y. x && y; inverse = λ x. not x; choice = λ c x y. if c then x else y }

abbrev pub AnyBool : Bool → Type 0
AnyBool b = Unit {0}

abbrev pub OnePlace : ℕ → Type 0
OnePlace p = p ≡ 0

abbrev pub plain_allows : Bool → ℕ → Bool → Type 0
plain_allows x p b = x ≡ b
