-- What two programs do differently with a coil over several scans: the combinations of the listed inputs with which, held, the first scan that
-- leaves the coil's variable ON is another one in the old program than in the new one. The coil and the listed inputs have a number in each
-- program; which belong together is for the caller to say.
use Rattle.std.specs.Prelude.{ℕ, ◌^◌, ◌==◌, Bool, not, List, length, filter, map, Option}
use Rattle.std.specs.List.{range_with_len}
use Rattle.std.specs.Option.{option_eq}
use Rattle.causes_query.specs.Causes.{Question}
use Rattle.scan_held.specs.Holding.{first_scan}
use Rattle.scan_held.specs.declared.scans.Scans.{Scans}
use Rattle.diff_held.specs.declared.row.HeldDifference.{HeldDifference}

-- Two first scans are not the same, where each may be none.
abbrev pub are_other : Option ℕ → Option ℕ → Bool
are_other a b = not (option_eq (λ m n. m == n) a b)

-- With the combination of the number n, held, the first scan after which the coil's variable is ON is another one in both.
abbrev pub is_held_difference : Question → Question → Scans → ℕ → Bool
is_held_difference old new s n = are_other (first_scan old s n) (first_scan new s n)

-- the row of a number: its first scan in each program
abbrev pub row_of : Question → Question → Scans → ℕ → HeldDifference
row_of old new s n = record { number = n; of_old = first_scan old s n; of_new = first_scan new s n }

-- the differences among so many numbers, from one on, ascending
abbrev pub differences_from : Question → Question → Scans → ℕ → ℕ → List HeldDifference
differences_from old new s number many = map (row_of old new s) (filter (is_held_difference old new s) (range_with_len number many))

-- all differences
abbrev pub held_differences : Question → Question → Scans → List HeldDifference
held_differences old new s = differences_from old new s 0 (2 ^ length old.listed)
