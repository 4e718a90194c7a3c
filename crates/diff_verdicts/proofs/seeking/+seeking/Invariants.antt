use Rattle.std.proofs.Common.{◌+◌, ◌*◌, ◌≤◌}
use Rattle.diff_cases.specs.Buffers.{AreAlikeBuffers}
use Rattle.diff_verdicts.specs.Judging.{AreTried}
use Rattle.diff_verdicts.proofs.seeking.+seeking.Given as goal

abbrev pub decreases-seek : goal.decreases-seek
decreases-seek l = l.looks * 4

abbrev pub decreases-by_cases : goal.decreases-by_cases
decreases-by_cases l = l.looks * 4 + 2

abbrev pub decreases-in_case : goal.decreases-in_case
decreases-in_case l = l.looks * 4 + 1

abbrev pub decreases-try_case : goal.decreases-try_case
decreases-try_case l = l.looks * 4 + 3

abbrev pub invariant-by_cases-loop-case : goal.invariant-by_cases-loop-case
invariant-by_cases-loop-case l = record {
  buffers : AreAlikeBuffers l.question.old.now l.question.new.now l.buffers;
  tried : AreTried l.question.old.now l.question.new.now l.tried;
  left : l.left ≤ l.looks;
}
