use Rattle.std.proofs.Common.{◌≡◌, length}
use Rattle.text_reasons.specs.Outside.{behind_lines}
use Rattle.text_reasons.specs.declared.outside.Within.TheVariants as within
use Rattle.text_reasons.proofs.outside.behind_lines.Given as goal

abbrev pub invariant-loop-rest : goal.invariant-loop-rest
invariant-loop-rest l = behind_lines l.within l.rest l.left ≡ behind_lines within.Code l.text l.lines

abbrev pub decreases-loop-rest : goal.decreases-loop-rest
decreases-loop-rest l = length l.rest
