use Rattle.diff_verdicts.specs.Judging.{AreTried}
use Rattle.diff_verdicts.proofs.seeking.try_forms.Given as goal

abbrev pub invariant-loop-number : goal.invariant-loop-number
invariant-loop-number l = AreTried l.question.old.now l.question.new.now l.tried
