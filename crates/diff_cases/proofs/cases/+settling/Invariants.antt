use Rattle.std.proofs.Common.{◌+◌, ◌*◌}
use Rattle.diff_cases.proofs.cases.+settling.Given as goal

abbrev pub decreases-settle : goal.decreases-settle
decreases-settle l = l.looks * 4

abbrev pub decreases-with_value : goal.decreases-with_value
decreases-with_value l = l.looks * 4 + 1

abbrev pub decreases-with_answer : goal.decreases-with_answer
decreases-with_answer l = l.looks * 4 + 1

abbrev pub decreases-by_values : goal.decreases-by_values
decreases-by_values l = l.looks * 4 + 2

abbrev pub decreases-by_answers : goal.decreases-by_answers
decreases-by_answers l = l.looks * 4 + 2

abbrev pub decreases-split : goal.decreases-split
decreases-split l = l.looks * 4 + 3
