use Rattle.std.proofs.Common.{refl}
use Rattle.diff_verdicts.proofs.Opened.{from_all}
use Rattle.diff_verdicts.proofs.asking.is_same_everywhere.Goals as goal

pub returns-clause-same : goal.returns-clause-same
returns-clause-same c = λ yes.
    from_all c.args.counted.now _ c.args.question.matching.now c.args.question.old.now c.args.question.new.now c.args.question.target refl refl
    (c.is_same_among-is_same.ensures.same yes)
