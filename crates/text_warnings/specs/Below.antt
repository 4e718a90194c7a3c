-- Numbers below a bound.
use Rattle.std.specs.Prelude.{◌<◌, ℕ}

-- some number below n is such a one
abbrev pub SomeBelow : ℕ → (ℕ → Type 0) → Type 0
SomeBelow n Such = (k : ℕ) × (k < n) × Such k
