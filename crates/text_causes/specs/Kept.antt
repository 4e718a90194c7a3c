-- Private to the writer of rows: a row that is kept, and the numbers whose rows differ from it in two digits and six bits alone.
use Rattle.std.specs.Prelude.{◌≡◌, ◌+◌, ◌-◌, ◌*◌, ◌/◌, ◌%◌, ◌<◌, ◌≤◌, ◌++◌, ◌∷◌, [], ℕ, List, codes, decimal, length, take, drop}
use Rattle.io_text.specs.Text.{after_commas}
use Rattle.text_causes.specs.Rows.{bits}
use Rattle.text_causes.specs.declared.kept.Kept.{Kept}

-- the end of the row of a number below 64: six bits and the line feed
abbrev pub tail_text : ℕ → List ℕ
tail_text i = after_commas (bits 6 i 6) ++ codes "\n"

-- the first so many tails, one in 16 bytes
abbrev pub AreTails : List ℕ → ℕ → Type 0
AreTails text count = (i : ℕ) → i < count → take 13 (drop (16 * i) text) ≡ tail_text i

-- a number below 100 in two digits
abbrev pub pair_text : ℕ → List ℕ
pair_text i = (48 + i / 10) ∷ (48 + i % 10) ∷ []

abbrev pub ArePairs : List ℕ → ℕ → Type 0
ArePairs text count = (i : ℕ) → i < count → take 2 (drop (2 * i) text) ≡ pair_text i

-- what follows the digits in a row: the bits of a number, as the k listed inputs have them
abbrev pub ends : ℕ → ℕ → List ℕ
ends k n = after_commas (bits k n k) ++ codes "\n"

-- The row of n is the kept one but for its last two digits and its last six bits.
pub record IsNear (kept : Kept) (n : ℕ) : Type 0 where
  pub hundreds : n / 100 ≡ kept.hundreds / 100
  pub sixties : n / 64 ≡ kept.sixties / 64

-- Rows can be made from it: it has three digits or more and six bits or more, and is no longer than what is copied and a tail.
pub record Serves (k : ℕ) (kept : Kept) : Type 0 where
  pub large : 100 ≤ kept.hundreds
  pub wide : 6 ≤ k
  pub short : 21 + 2 * k ≤ 77 + kept.start

pub record IsKept (k : ℕ) (kept : Kept) : Type 0 where
  pub tails : AreTails kept.tails 64
  pub pairs : ArePairs kept.pairs 100
  pub whole : kept.hundreds % 100 ≡ 0
  pub even : kept.sixties % 64 ≡ 0
  pub begins : kept.start + length (decimal kept.hundreds) ≡ 20
  pub digits : take (20 - kept.start) (drop kept.start kept.text) ≡ decimal kept.hundreds
  pub ends : take (2 * k + 1) (drop 20 kept.text) ≡ ends k kept.sixties
