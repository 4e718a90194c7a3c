use Rattle.std.proofs.Common.{◌+◌, ◌*◌, ◌-◌, length}
use Rattle.invariant_cases.proofs.cases.+settling.Given as goal

abbrev pub decreases-settle : goal.decreases-settle
decreases-settle l = l.scans * (length l.question.pairs.now + 3)

abbrev pub decreases-by_partners : goal.decreases-by_partners
decreases-by_partners l = l.scans * (length l.question.pairs.now + 3) + (length l.question.pairs.now - l.number) + 1

abbrev pub decreases-by_values : goal.decreases-by_values
decreases-by_values l = l.scans * (length l.question.pairs.now + 3) + length l.question.pairs.now + 2

abbrev pub decreases-by_answers : goal.decreases-by_answers
decreases-by_answers l = l.scans * (length l.question.pairs.now + 3) + length l.question.pairs.now + 2
