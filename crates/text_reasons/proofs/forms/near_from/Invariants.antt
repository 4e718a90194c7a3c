use Rattle.std.proofs.Common.{◌≡◌, ◌≤◌, ◌+◌}
use Rattle.text_reasons.specs.declared.forms.TheConstants.{FORMS}
use Rattle.text_reasons.specs.Forms.{near_from}
use Rattle.text_reasons.proofs.forms.near_from.Given as goal

abbrev pub invariant-loop-left : goal.invariant-loop-left
invariant-loop-left l = (near_from l.cell l.distance l.n l.left ≡ near_from l.cell l.distance l.from l.count) × (l.n + l.left ≤ FORMS)

abbrev pub decreases-loop-left : goal.decreases-loop-left
decreases-loop-left l = l.left
