-- The signal of 64 lanes of three values in two words. A lane is ON where its bit of `on` is 1, OFF where its bit of `off` is 1, and OPEN
-- where neither is.
use Rattle.std.specs.Prelude.{◌≡◌, ℕ, ◌+◌, ◌-◌, ◌/◌, ◌%◌, ◌^◌, ◌<◌, ◌≤◌, ◌==◌, Bool, true, false, if◌then◌else◌, nat_lt, bit_and, bit_or}
use Rattle.std.specs.Int.{bit_at}
use Rattle.scan_signals.specs.Algebra.{Algebra}
use Rattle.scan_signals.specs.declared.tri.Tri.{Tri}
use Rattle.scan_signals.specs.declared.tri.Tri.TheVariants.{Off, On, Unsure}

pub record Lanes : Type 0 where
  pub on : ℕ
  pub off : ℕ

abbrev pub lanes : ℕ → ℕ → Lanes
lanes on off = record { on = on; off = off }

-- where the condition's lane is OPEN, what the two sides agree on
abbrev pub picked : ℕ → ℕ → ℕ → ℕ → ℕ
picked on off x y = bit_or (bit_or (bit_and on x) (bit_and off y)) (bit_and x y)

abbrev pub rails : Algebra Lanes
rails = record {
  known = λ b. lanes (if b then 2 ^ 64 - 1 else 0) (if b then 0 else 2 ^ 64 - 1);
  join = λ x y. lanes (bit_or x.on y.on) (bit_and x.off y.off);
  meet = λ x y. lanes (bit_and x.on y.on) (bit_or x.off y.off);
  inverse = λ x. lanes x.off x.on;
  choice = λ c x y. lanes (picked c.on c.off x.on y.on) (picked c.on c.off x.off y.off);
}

-- no lane is both
pub record AreRails (on off : ℕ) : Type 0 where
  pub on_small : on < 2 ^ 64
  pub off_small : off < 2 ^ 64
  pub apart : (i : ℕ) → bit_at on i + bit_at off i ≤ 1

abbrev pub IsRails : Lanes → Type 0
IsRails x = AreRails x.on x.off

-- the truth values that a lane allows
abbrev pub lane_allows : Lanes → ℕ → Bool → Type 0
lane_allows x p b = (bit_at x.on p ≡ 1 → b ≡ true) × (bit_at x.off p ≡ 1 → b ≡ false)

-- the two bits of a value
abbrev pub on_digit : Tri → ℕ
on_digit On = 1
on_digit Off = 0
on_digit Unsure = 0

abbrev pub off_digit : Tri → ℕ
off_digit On = 0
off_digit Off = 1
off_digit Unsure = 0

-- in this lane stands this value
abbrev pub InLane : ℕ → Lanes → Tri → Type 0
InLane p x t = (bit_at x.on p ≡ on_digit t) × (bit_at x.off p ≡ off_digit t)

-- ---- Lanes as prefixes. Of 64 * 2 ^ u numbers, all with the same higher bits, lane l stands for the longest open part whose middle is
-- l * 2 ^ u: the prefix whose completions have this middle. So lane l knows bit t, counted from the unit, where l has a 1 below it, and has
-- it as l has it: here the lanes that know it as 1, and those that know it as 0.
abbrev pub lane_on : ℕ → ℕ
lane_on t = if t == 1 then 9838263505978427528 else (if t == 2 then 16204198715729174752 else (if t == 3 then 18302908165848628736
    else (if t == 4 then 18446181128050966528 else (if t == 5 then 18446744065119617024 else 0))))

abbrev pub lane_off : ℕ → ℕ
lane_off t = if t == 1 then 2459565876494606882 else (if t == 2 then 1012762419733073422 else (if t == 3 then 71495735022846206
    else (if t == 4 then 281466386841598 else (if t == 5 then 4294967294 else 0))))

-- the signal of an open bit
abbrev pub rails_opened : ℕ → ℕ → Lanes
rails_opened u s = if nat_lt s u then lanes 0 0 else lanes (lane_on (s - u)) (lane_off (s - u))

-- The lane of the prefix with this base and 1 + u + j open bits.
abbrev pub lane_of : ℕ → ℕ → ℕ → ℕ
lane_of u j base = (base + 2 ^ (u + j)) / 2 ^ u % 64
