use Rattle.diff_verdicts.specs.Judging.{AreTried}
use Rattle.diff_verdicts.proofs.candidate.share_blocks.Given as goal

abbrev pub invariant-loop-pair : goal.invariant-loop-pair
invariant-loop-pair l = AreTried l.question.old.now l.question.new.now l.tried
