-- The signal of 64 places in a word: place i is the bit of weight 2 ^ i, and allows just that truth value.
use Rattle.std.specs.Prelude.{◌≡◌, ℕ, ◌-◌, ◌^◌, ◌<◌, Bool, if◌then◌else◌, bit_and, bit_or}
use Rattle.std.specs.Int.{bit_at, bit_not, w64}
use Rattle.scan_signals.specs.Algebra.{Algebra}
use Rattle.scan_signals.specs.declared.word.Word64.{Word64}

abbrev pub word : ℕ → Word64
word n = record { 0 = n }

abbrev pub words : Algebra Word64
words = record {
  known = λ b. word (if b then 2 ^ 64 - 1 else 0);
  join = λ x y. word (bit_or x.0 y.0);
  meet = λ x y. word (bit_and x.0 y.0);
  inverse = λ x. word (bit_not w64 x.0);
  choice = λ c x y. word (bit_or (bit_and c.0 x.0) (bit_and (bit_not w64 c.0) y.0));
}

abbrev pub IsBit : ℕ → Type 0
IsBit p = p < 64

abbrev pub IsWord : Word64 → Type 0
IsWord x = x.0 < 2 ^ 64

abbrev pub word_allows : Word64 → ℕ → Bool → Type 0
word_allows x p b = bit_at x.0 p ≡ if b then 1 else 0
