-- The list of what two programs do differently, and what is counted of it.
use Rattle.std.specs.Prelude.{◌≡◌, ◌+◌, ℕ, List, Option, None, Some, IfSome, length}
use Rattle.causes_query.specs.Causes.{Question}
use Rattle.scan_held.specs.declared.scans.Scans.{Scans}
use Rattle.search_differences.specs.declared.sought.Sought.{Sought}
use Rattle.search_differences.specs.declared.sought.Sought.TheVariants.{OldAlone, NewAlone}
use Rattle.search_groups.specs.Groups.{Row, rows}
use Rattle.causes_one_scan.specs.Order.{in_order, sifted}
use Rattle.diff_causes.specs.GroupCursor.{differences_in}
use Rattle.diff_causes.specs.Order.{sifted_alike}
use Rattle.diff_causes.specs.Differences.{differences_after, is_sought_difference}
use Rattle.diff_causes.specs.declared.rows.Difference.{Difference}
use Rattle.diff_held.specs.HeldDifferences.{held_differences}
use Rattle.diff_held.specs.declared.row.HeldDifference.{HeldDifference}
use Rattle.text_causes.specs.CauseText.{limited}
use Rattle.text_differences.specs.DifferenceText.{difference_text, part}
use Rattle.text_causes.specs.Limit.{limit_left}
use Rattle.text_differences.specs.GroupText.{difference_group_text}
use Rattle.text_held_differences.specs.HeldText.{held_difference_text}
use Rattle.cli_arguments.specs.declared.request.DiffForm.{DiffForm}
use Rattle.cli_arguments.specs.declared.request.DiffForm.TheVariants.{Rows, Progress, Held, Groups}
use Rattle.cli_arguments.specs.declared.request.GroupFormat.{GroupFormat}
use Rattle.cli_arguments.specs.declared.request.InputOrder.{InputOrder}
use Rattle.cli_arguments.specs.declared.request.InputOrder.TheVariants as order
use Rattle.cli_questions.specs.Ending.{Listing}
use Rattle.cli_questions.specs.Forms.{form_on}
use Rattle.cli_questions.specs.declared.counting.ListCounts.{ListCounts}
use Rattle.cli_questions.specs.declared.counting.ListCounts.TheVariants as counts
use Rattle.cli_diff.specs.Faults.{new_refusal, old_refusal, scans_of}

-- the rows from a number on and up to another, or the first of them
abbrev pub differences_for : Option ℕ → Option ℕ → Option ℕ → Question → Question → List Difference
differences_for limit after upto old new = limited limit (part upto (differences_after after old new))

abbrev pub rows_text : Option ℕ → Option ℕ → Option ℕ → Question → Question → List ℕ
rows_text limit after upto old new = difference_text old.program old.listed (differences_for limit after upto old new)

abbrev pub row_counts : Option ℕ → Option ℕ → Option ℕ → Question → Question → ListCounts
row_counts limit after upto old new = counts.Rows (length (differences_for limit after upto old new))

-- the rows over several scans, or the first of them
abbrev pub held_for : Option ℕ → Scans → Question → Question → List HeldDifference
held_for limit s old new = limited limit (held_differences old new s)

-- the groups of the numbers that one program alone chooses
abbrev pub groups_alone : Sought → Question → Question → List Row
groups_alone sought old new = rows (is_sought_difference sought old new) (length old.listed) 0

-- the first of them: those of the old program, and then as many of the new one as the limit leaves
abbrev pub old_groups : Option ℕ → Question → Question → List Row
old_groups limit old new = limited limit (groups_alone OldAlone old new)

abbrev pub new_groups : Option ℕ → Question → Question → List Row
new_groups limit old new = limited (limit_left limit (length (old_groups limit old new))) (groups_alone NewAlone old new)

-- the old question with its inputs in the order in which they are looked at
abbrev pub old_ordered : InputOrder → Question → Question
old_ordered order.Given old = old
old_ordered order.Sifted old = in_order old (sifted old)

-- the new question with its inputs in the same order
abbrev pub new_ordered : InputOrder → Question → Question → Question
new_ordered order.Given old new = new
new_ordered order.Sifted old new = in_order new (sifted_alike old new)

-- the text of the groups in a form, and what is counted of them
abbrev pub HasGroupText : GroupFormat → Option ℕ → Question → Question → Listing
HasGroupText form limit old new text c =
    (text ≡ difference_group_text (form_on form old.coil) old.program old.listed (old_groups limit old new) (new_groups limit old new))
    × IfSome c (λ n. n ≡ counts.Differences (length (old_groups limit old new) + length (new_groups limit old new))
    (differences_in (old_groups limit old new) + differences_in (new_groups limit old new)))

-- the text of the rows, and what is counted of them
abbrev pub HasRowsText : Option ℕ → Option ℕ → Option ℕ → Question → Question → Listing
HasRowsText after upto limit old new text c =
    (text ≡ rows_text limit after upto old new) × IfSome c (λ n. n ≡ row_counts limit after upto old new)

abbrev pub HasText : DiffForm → Option ℕ → Question → Question → Listing
HasText (Rows after upto) limit old new text c = HasRowsText after upto limit old new text c
HasText (Progress after upto) limit old new text c = HasRowsText after upto limit old new text c
HasText (Held count every) limit old new text c =
    (text ≡ held_difference_text old.program old.listed (held_for limit (scans_of count every) old new))
    × IfSome c (λ n. n ≡ counts.Rows (length (held_for limit (scans_of count every) old new)))
HasText (Groups g) limit old new text c = HasGroupText g.form limit (old_ordered g.order old) (new_ordered g.order old new) text c

-- Neither question is refused, and this is the text of the list.
abbrev pub DiffList : DiffForm → Option ℕ → Question → Question → Listing
DiffList form limit old new text c = (old_refusal form old ≡ None) × (new_refusal form new ≡ None) × HasText form limit old new text c
