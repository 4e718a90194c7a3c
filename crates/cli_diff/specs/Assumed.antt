-- What is assumed of the inputs in a comparison, and which list there is of the combinations with which it is true in both programs.
use Rattle.std.specs.Prelude.{◌≡◌, ◌+◌, ◌<◌, ◌^◌, ℕ, zero, true, false, List, Option, None, Some, ◌⊎◌, IfSome, length, option_map}
use Rattle.st_expression.specs.declared.expression.Expression.{Expression}
use Rattle.causes_query.specs.Causes.{Question}
use Rattle.scan_held.specs.declared.scans.Scans.{Scans}
use Rattle.search_differences.specs.declared.sought.Sought.{Sought}
use Rattle.search_differences.specs.declared.sought.Sought.TheVariants.{OldAlone, NewAlone}
use Rattle.search_groups.specs.Groups.{Row, rows}
use Rattle.diff_causes.specs.Assuming.{assumed_differences_after, is_assumed_sought, is_counted_in_both}
use Rattle.diff_causes.specs.GroupCursor.{differences_in}
use Rattle.diff_causes.specs.declared.rows.Difference.{Difference}
use Rattle.diff_held.specs.Assuming.{assumed_held_differences}
use Rattle.diff_held.specs.declared.row.HeldDifference.{HeldDifference}
use Rattle.text_causes.specs.CauseText.{limited}
use Rattle.text_causes.specs.Limit.{limit_left}
use Rattle.text_differences.specs.DifferenceText.{difference_text, part}
use Rattle.text_differences.specs.GroupText.{difference_group_text}
use Rattle.text_held_differences.specs.HeldText.{held_difference_text}
use Rattle.cli_arguments.specs.declared.request.DiffForm.{DiffForm}
use Rattle.cli_arguments.specs.declared.request.DiffForm.TheVariants.{Rows, Progress, Held, Groups}
use Rattle.cli_arguments.specs.declared.request.GroupFormat.{GroupFormat}
use Rattle.cli_questions.specs.Ending.{Listing}
use Rattle.cli_questions.specs.Forms.{form_on}
use Rattle.cli_questions.specs.declared.counting.ListCounts.{ListCounts}
use Rattle.cli_questions.specs.declared.counting.ListCounts.TheVariants as counts
use Rattle.cli_inputs.specs.declared.fault.ToolFault.TheVariants as fault
use Rattle.causes_query.specs.declared.fault.CauseFault.TheVariants as cause
use Rattle.search_differences.specs.declared.side.Side.TheVariants.{Old}
use Rattle.cli_diff.specs.declared.sided.SidedFault.{SidedFault}
use Rattle.cli_diff.specs.Faults.{new_refusal, old_refusal, scans_of}
use Rattle.cli_diff.specs.Listing.{new_ordered, old_ordered}
use Rattle.cli_diff.specs.declared.assuming.Assuming.{Assuming}

-- What is assumed of each program, where something is, and how many expressions were given for that.
pub record Assumption : Type 0 where
  pub old : Option Expression
  pub new : Option Expression
  pub expressions : ℕ

-- With some combination of the listed inputs it is true in both programs.
abbrev pub IsEverTrueInBoth : (old_assumed new_assumed : Option Expression) → Question → Question → Type 0
IsEverTrueInBoth old_assumed new_assumed old new = (n : ℕ) × (n < 2 ^ length old.listed) × (is_counted_in_both old_assumed new_assumed old new n ≡ true)

-- With none of them it is.
abbrev pub IsNeverTrueInBoth : (old_assumed new_assumed : Option Expression) → Question → Question → Type 0
IsNeverTrueInBoth old_assumed new_assumed old new = (n : ℕ) → n < 2 ^ length old.listed → is_counted_in_both old_assumed new_assumed old new n ≡ false

-- ---- rows

-- the rows from a number on and up to another, or the first of them
abbrev pub assumed_for : Assumption → Option ℕ → Option ℕ → Option ℕ → Question → Question → List Difference
assumed_for a limit after upto old new = limited limit (part upto (assumed_differences_after after a.old a.new old new))

abbrev pub assumed_text : Assumption → Option ℕ → Option ℕ → Option ℕ → Question → Question → List ℕ
assumed_text a limit after upto old new = difference_text old.program old.listed (assumed_for a limit after upto old new)

-- The counts tell how many expressions there are, where there are any.
abbrev pub rows_by : (expressions rows : ℕ) → ListCounts
rows_by zero rows = counts.Rows rows
rows_by n rows = counts.AssumedRows rows n

abbrev pub assumed_counts : Assumption → Option ℕ → Option ℕ → Option ℕ → Question → Question → ListCounts
assumed_counts a limit after upto old new = rows_by a.expressions (length (assumed_for a limit after upto old new))

-- the rows over several scans, or the first of them
abbrev pub assumed_held_for : Assumption → Option ℕ → Scans → Question → Question → List HeldDifference
assumed_held_for a limit s old new = limited limit (assumed_held_differences a.old a.new old new s)

-- ---- groups

-- the groups of the numbers that one program alone chooses
abbrev pub assumed_alone : Assumption → Sought → Question → Question → List Row
assumed_alone a sought old new = rows (is_assumed_sought sought a.old a.new old new) (length old.listed) 0

-- the first of them: those of the old program, and then as many of the new one as the limit leaves
abbrev pub old_assumed_groups : Assumption → Option ℕ → Question → Question → List Row
old_assumed_groups a limit old new = limited limit (assumed_alone a OldAlone old new)

abbrev pub new_assumed_groups : Assumption → Option ℕ → Question → Question → List Row
new_assumed_groups a limit old new = limited (limit_left limit (length (old_assumed_groups a limit old new))) (assumed_alone a NewAlone old new)

abbrev pub differences_by : (expressions rows differences : ℕ) → ListCounts
differences_by zero rows differences = counts.Differences rows differences
differences_by n rows differences = counts.AssumedDifferences rows differences n

-- the text of the groups in a form, and what is counted of them
abbrev pub HasAssumedGroupText : Assumption → GroupFormat → Option ℕ → Question → Question → Listing
HasAssumedGroupText a form limit old new text c =
    (text ≡ difference_group_text (form_on form old.coil) old.program old.listed (old_assumed_groups a limit old new) (new_assumed_groups a limit old new))
    × IfSome c (λ n. n ≡ differences_by a.expressions (length (old_assumed_groups a limit old new) + length (new_assumed_groups a limit old new))
    (differences_in (old_assumed_groups a limit old new) + differences_in (new_assumed_groups a limit old new)))

-- ---- any list

-- the text of the rows, and what is counted of them
abbrev pub HasAssumedRowsText : Assumption → Option ℕ → Option ℕ → Option ℕ → Question → Question → Listing
HasAssumedRowsText a after upto limit old new text c =
    (text ≡ assumed_text a limit after upto old new) × IfSome c (λ n. n ≡ assumed_counts a limit after upto old new)

-- The order of the inputs in groups is that without what is assumed.
abbrev pub HasAssumedText : Assumption → DiffForm → Option ℕ → Question → Question → Listing
HasAssumedText a (Rows after upto) limit old new text c = HasAssumedRowsText a after upto limit old new text c
HasAssumedText a (Progress after upto) limit old new text c = HasAssumedRowsText a after upto limit old new text c
HasAssumedText a (Held count every) limit old new text c =
    (text ≡ held_difference_text old.program old.listed (assumed_held_for a limit (scans_of count every) old new))
    × IfSome c (λ n. n ≡ rows_by a.expressions (length (assumed_held_for a limit (scans_of count every) old new)))
HasAssumedText a (Groups g) limit old new text c = HasAssumedGroupText a g.form limit (old_ordered g.order old) (new_ordered g.order old new) text c

-- Neither question is refused, and this is the text of the list.
abbrev pub AssumedList : Assumption → DiffForm → Option ℕ → Question → Question → Listing
AssumedList a form limit old new text c = (old_refusal form old ≡ None) × (new_refusal form new ≡ None) × HasAssumedText a form limit old new text c

-- ---- Private: what is assumed, as the lists take it

abbrev pub assumption : Assuming → Assumption
assumption w = record { old = option_map (λ e. e.now) w.old; new = option_map (λ e. e.now) w.new; expressions = w.expressions }

abbrev pub nothing : Assumption
nothing = record { old = None; new = None; expressions = 0 }

-- Memory ran out; or what is assumed is never true, and that is a fault of neither program alone.
abbrev pub IsImpossibleBy : (Never : Type 0) → SidedFault → Type 0
IsImpossibleBy Never e = (e ≡ record { side = Some Old; fault = fault.Cause cause.Memory }) ⊎ ((e ≡ record { side = None; fault = fault.NeverTrue }) × Never)
