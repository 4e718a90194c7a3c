-- The differences over several scans, among the combinations with which what is assumed of the inputs is true in both programs. The inputs are held,
-- so it is true in each scan or in none.
use Rattle.std.specs.Prelude.{ℕ, ◌^◌, ◌&&◌, Bool, List, Option, length, filter, map}
use Rattle.std.specs.List.{range_with_len}
use Rattle.st_expression.specs.declared.expression.Expression.{Expression}
use Rattle.causes_query.specs.Causes.{Question}
use Rattle.scan_held.specs.declared.scans.Scans.{Scans}
use Rattle.diff_causes.specs.Assuming.{is_counted_in_both}
use Rattle.diff_held.specs.HeldDifferences.{is_held_difference, row_of}
use Rattle.diff_held.specs.declared.row.HeldDifference.{HeldDifference}

-- The combination of the number n counts, and with it, held, the first scan after which the coil's variable is ON is another one in both.
abbrev pub is_assumed_held_difference : Option Expression → Option Expression → Question → Question → Scans → ℕ → Bool
is_assumed_held_difference old_assumed new_assumed old new s n =
    is_counted_in_both old_assumed new_assumed old new n && is_held_difference old new s n

-- all of them, ascending
abbrev pub assumed_held_differences : Option Expression → Option Expression → Question → Question → Scans → List HeldDifference
assumed_held_differences old_assumed new_assumed old new s =
    map (row_of old new s) (filter (is_assumed_held_difference old_assumed new_assumed old new s) (range_with_len 0 (2 ^ length old.listed)))
