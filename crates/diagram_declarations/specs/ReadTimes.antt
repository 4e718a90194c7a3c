-- Private to the proofs: numbers and durations read from left to right, as the code reads them.
use Rattle.std.specs.Prelude.{◌≡◌, ℕ, zero, suc, ◌+◌, ◌-◌, ◌*◌, ◌^◌, min, ◌&&◌, ◌==◌, nat_le, nat_lt, List, [], ◌∷◌, length, take, drop, codes, Option, Some, None, if◌then◌else◌}
use Rattle.std.specs.List.{fold, prefix_len}
use Rattle.std.specs.Map.{lookup}
use Rattle.std.specs.Char.{is_ascii_digit, is_ascii_alphabetic}
use Rattle.std.specs.Str.{str_eq_ignore_ascii_case}
use Rattle.diagram_declarations.specs.declared.time.TheConstants.{LARGEST_TIME}
use Rattle.diagram_declarations.specs.declared.time.Unit.{Unit as TimeUnit}
use Rattle.diagram_declarations.specs.declared.time.Unit.TheVariants as time_unit
use Rattle.diagram_declarations.specs.Duration.{number_of, measure}

infixl 10 ◌>>=◌
abbrev pub ◌>>=◌ : {A B : Type 0} → Option A → (A → Option B) → Option B
(Some x) >>= f = f x
None >>= f = None

abbrev pub or_else : {A : Type 0} → Option A → Option A → Option A
or_else (Some x) other = Some x
or_else None other = other

-- the number of digits after others that spell n
abbrev pub value_from : ℕ → List ℕ → ℕ
value_from n digits = fold (λ m b. m * 10 + (b - 48)) n digits

abbrev pub letters_of : TimeUnit → List ℕ
letters_of u = (measure u).letters

abbrev pub millis_of : TimeUnit → ℕ
millis_of u = (measure u).millis

abbrev pub range_of : TimeUnit → ℕ
range_of u = (measure u).range

abbrev pub units : List (List ℕ × TimeUnit)
units =
    (codes "d", time_unit.Day) ∷ (codes "h", time_unit.Hour) ∷ (codes "m", time_unit.Minute) ∷ (codes "s", time_unit.Second)
    ∷ (codes "ms", time_unit.Milli) ∷ []

-- a number, its unit, and what follows them; numbers are cut at 2 ^ 32, which is more than any duration has
pub record PartAt : Type 0 where
  pub number : ℕ
  pub unit : TimeUnit
  pub rest : List ℕ

unfoldable pub part_at : List ℕ → Option PartAt
part_at text =
    let digits : List ℕ = take (prefix_len is_ascii_digit text) text in
    let after : List ℕ = drop (prefix_len is_ascii_digit text) text in
    if nat_le 1 (length digits) then (do
      u ← lookup (str_eq_ignore_ascii_case (take (prefix_len is_ascii_alphabetic after) after)) units
      Some (record { number = min (number_of digits) (2 ^ 32); unit = u; rest = drop (prefix_len is_ascii_alphabetic after) after }))
    else None

abbrev pub after_underscore : List ℕ → List ℕ
after_underscore [] = []
after_underscore (b ∷ bs) = if b == 95 then bs else b ∷ bs

-- the total with the parts that follow, in so many turns
unfoldable pub total_from : ℕ → TimeUnit → ℕ → List ℕ → Option ℕ
total_from zero last total rest = None
total_from (suc n) last total [] = Some total
total_from (suc n) last total (b ∷ bs) = do
  p ← part_at (after_underscore (b ∷ bs))
  if nat_lt (millis_of p.unit) (millis_of last) && nat_lt p.number (range_of p.unit) then total_from n p.unit (min (total + p.number * millis_of p.unit) (2 ^ 32)) p.rest else None

unfoldable pub total_of : List ℕ → Option ℕ
total_of text = do
  p ← part_at text
  total_from (length p.rest + 1) p.unit (min (0 + p.number * millis_of p.unit) (2 ^ 32)) p.rest

abbrev pub after_word : List ℕ → List ℕ → Option (List ℕ)
after_word word text = if str_eq_ignore_ascii_case (take (length word) text) word then Some (drop (length word) text) else None

abbrev pub after_prefix : List ℕ → Option (List ℕ)
after_prefix text = or_else (after_word (codes "T#") text) (after_word (codes "TIME#") text)

unfoldable pub time_of : List ℕ → Option ℕ
time_of text = do
  after ← after_prefix text
  total ← total_of after
  if nat_le total LARGEST_TIME then Some total else None

-- what a function returned is what reading gives
abbrev pub Gives : {X Y : Type 0} → (X → Y) → Option X → Option Y → Type 0
Gives view (Some x) read = read ≡ Some (view x)
Gives view None read = read ≡ None
