use Rattle.std.proofs.Common.{◌∙◌, Some, sym}
use Rattle.reach_search.proofs.Completed.{false_either, off_is_false}
use Rattle.reach_search.proofs.InputLaws.{put_back, put_back_first}
use Rattle.reach_search.proofs.possible.+may_be_true.Goals as goal

pub returns-in-Off-clause-never : goal.returns-in-Off-clause-never
returns-in-Off-clause-never t c = λ never. off_is_false c.args.expression.now c.args.inputs.now (sym c.known_truth.ensures ∙ c.in-Off.is)

pub returns-then-may_be_true-clause-same : goal.returns-then-may_be_true-clause-same
returns-then-may_be_true-clause-same t c = put_back_first c.args.inputs.now c.may_be_true.new.inputs c.in-Some.input c.in-Some.ensures.open c.may_be_true.ensures.same

pub returns-clause-same : goal.returns-clause-same
returns-clause-same t c =
    put_back c.args.inputs.now c.may_be_true.new.inputs c.may_be_true-on.new.inputs c.in-Some.input c.in-Some.ensures.open c.may_be_true.ensures.same
    c.may_be_true-on.ensures.same

pub returns-clause-never : goal.returns-clause-never
returns-clause-never t c = λ never.
    false_either (Some c.args.expression.now) c.args.inputs.now c.may_be_true.new.inputs c.in-Some.input c.may_be_true.ensures.same
    (c.may_be_true.ensures.never c.if-may_be_true.false) (c.may_be_true-on.ensures.never never)
