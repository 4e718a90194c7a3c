-- Numbers in decimal, and duration literals (IEC 61131-3, without decimals; milliseconds are the smallest unit of the profile).
use Rattle.std.specs.Prelude.{◌≡◌, ℕ, ◌+◌, ◌-◌, ◌*◌, ◌<◌, ◌≤◌, ◌⊎◌, true, List, [], ◌∷◌, ◌++◌, length, codes}
use Rattle.std.specs.List.{fold, list_all, list_any, sum_by}
use Rattle.std.specs.Char.{is_ascii_digit}
use Rattle.std.specs.Str.{str_eq_ignore_ascii_case}
use Rattle.diagram_declarations.specs.declared.time.TheConstants.{LARGEST_TIME}
use Rattle.diagram_declarations.specs.declared.time.Unit.TheVariants as unit

-- The number that digits spell, the first one weighing most; 48 is the digit 0.
abbrev pub number_of : List ℕ → ℕ
number_of digits = fold (λ n b. n * 10 + (b - 48)) 0 digits

-- A unit: its letters, its milliseconds, and how many of it make the next larger one, 1 where there is none.
pub record Measure : Type 0 where
  pub letters : List ℕ
  pub millis : ℕ
  pub range : ℕ

abbrev pub measure : unit.the_data → Measure
measure unit.Day = record { letters = codes "d"; millis = 86400000; range = 1 }
measure unit.Hour = record { letters = codes "h"; millis = 3600000; range = 24 }
measure unit.Minute = record { letters = codes "m"; millis = 60000; range = 60 }
measure unit.Second = record { letters = codes "s"; millis = 1000; range = 60 }
measure unit.Milli = record { letters = codes "ms"; millis = 1; range = 1000 }

-- Digits and a unit, whose letters may be small or capital.
pub record Time : Type 0 where
  pub digits : List ℕ
  pub letters : List ℕ
  pub unit : unit.the_data

abbrev pub IsTime : Time → Type 0
IsTime p = (1 ≤ length p.digits) × (list_all is_ascii_digit p.digits ≡ true) × (str_eq_ignore_ascii_case p.letters (measure p.unit).letters ≡ true)

-- The text is these parts, from larger units to smaller ones; one underscore (95) may stand between two of them.
-- Any unit after the first one counts to less than the next larger unit.
abbrev pub AreTimes : List Time → List ℕ → Type 0
AreTimes [] text = ⊥
AreTimes (p ∷ []) text = IsTime p × (text ≡ p.digits ++ p.letters)
AreTimes (p ∷ q ∷ ps) text =
    (between after : List ℕ) × IsTime p × (text ≡ p.digits ++ (p.letters ++ (between ++ after)))
    × ((between ≡ []) ⊎ (between ≡ 95 ∷ [])) × ((measure q.unit).millis < (measure p.unit).millis)
    × (number_of q.digits < (measure q.unit).range) × AreTimes (q ∷ ps) after

-- The literal: `T#` or `TIME#`, then the parts; its value in milliseconds is their sum, and below 2 ^ 32 (the profile).
abbrev pub IsDuration : List ℕ → ℕ → Type 0
IsDuration text n =
    (prefix after : List ℕ) × (parts : List Time) × (text ≡ prefix ++ after) × (list_any (str_eq_ignore_ascii_case prefix) (codes "T#" ∷ codes "TIME#" ∷ []) ≡ true)
    × AreTimes parts after × (n ≡ sum_by (λ p. number_of p.digits * (measure p.unit).millis) parts) × (n ≤ LARGEST_TIME)
