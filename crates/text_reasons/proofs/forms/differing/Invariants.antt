use Rattle.std.proofs.Common.{◌≡◌, ◌≤◌, ◌+◌, length}
use Rattle.text_reasons.specs.Forms.{differing}
use Rattle.text_reasons.proofs.forms.differing.Given as goal

abbrev pub invariant-loop-form_left : goal.invariant-loop-form_left
invariant-loop-form_left l = (l.count + differing l.cell_left l.form_left ≡ differing l.cell l.form) × (l.count + length l.form_left ≤ length l.form)

abbrev pub decreases-loop-form_left : goal.decreases-loop-form_left
decreases-loop-form_left l = length l.form_left
