use Rattle.std.proofs.Common.{◌∙◌}
use Rattle.scan_signals.specs.declared.tri.Tri.TheVariants.{Off}
use Rattle.invariant_cases.specs.declared.answer.Answer.TheVariants.{Off as AnswersOff, Input}
use Rattle.diff_cases.proofs.PinnedBack.{answer_over, case_over, not_not, settled_from}
use Rattle.diff_cases.specs.Assuming.{assumed_of_both}
use Rattle.diff_cases.specs.Cases.{answering_in, by_answers, by_assumption, by_cases, by_scan, pinned_in}
use Rattle.diff_cases.proofs.cases.+settling.Goals as goal

pub by_values-returns-clause-settled : goal.by_values-returns-clause-settled
by_values-returns-clause-settled t c = λ yes.
    let question = c.args.question in
    let joint = c.args.joint in
    let b = c.args.buffers.now in
    let same = c.with_value-on.ensures.buffers in
    by_cases b.of_old.case b.of_new.case joint c.requires.joint
    (settled_from question.old.now question.new.now (assumed_of_both question.assumed) question.matching.now question.target (λ k. pinned_in k joint.old Off) (λ l. pinned_in l joint.new Off)
    b.of_old.case b.of_new.case _ _ same.of_old.case same.of_new.case (c.with_value.ensures.settled yes))
    (c.with_value-on.ensures.settled (not_not _ c.if-not-on.false))

pub by_answers-returns-clause-settled : goal.by_answers-returns-clause-settled
by_answers-returns-clause-settled t c = λ yes.
    let question = c.args.question in
    let joint = c.args.joint in
    let b = c.args.buffers.now in
    let on = c.with_answer-on.ensures.buffers in
    let off = c.with_answer-off.ensures.buffers in
    by_answers b.of_old.case b.of_new.case joint c.requires.joint
    (settled_from question.old.now question.new.now (assumed_of_both question.assumed) question.matching.now question.target (λ k. answering_in k joint.old AnswersOff) (λ l. answering_in l joint.new AnswersOff)
    b.of_old.case b.of_new.case _ _ on.of_old.case on.of_new.case (c.with_answer-off.ensures.settled (not_not _ c.if-not-off.false)))
    (c.with_answer-on.ensures.settled (not_not _ c.if-not-on.false))
    (settled_from question.old.now question.new.now (assumed_of_both question.assumed) question.matching.now question.target (λ k. answering_in k joint.old Input) (λ l. answering_in l joint.new Input)
    b.of_old.case b.of_new.case _ _ (off.of_old.case ∙ on.of_old.case) (off.of_new.case ∙ on.of_new.case) (c.with_answer.ensures.settled yes))

pub with_value-returns-clause-buffers : goal.with_value-returns-clause-buffers
with_value-returns-clause-buffers t c =
    let b = c.args.buffers.now in
    let after = c.settle-search.ensures.buffers in
    record {
      of_old = record {
        case = case_over b.of_old.case c.pin_in.new.known c.settle-search.new.buffers.of_old.case c.pin_in-3.new.known _ _ _
            c.pin_in.ensures.known after.of_old.case c.told_in-old.ensures c.pin_in-3.ensures.known;
        trial = after.of_old.trial;
        room = after.of_old.room;
      };
      of_new = record {
        case = case_over b.of_new.case c.pin_in-2.new.known c.settle-search.new.buffers.of_new.case c.pin_in-4.new.known _ _ _
            c.pin_in-2.ensures.known after.of_new.case c.told_in-new.ensures c.pin_in-4.ensures.known;
        trial = after.of_new.trial;
        room = after.of_new.room;
      };
      old_traces = after.old_traces;
      new_traces = after.new_traces;
    }

pub with_answer-returns-clause-buffers : goal.with_answer-returns-clause-buffers
with_answer-returns-clause-buffers t c =
    let b = c.args.buffers.now in
    let after = c.settle-search.ensures.buffers in
    record {
      of_old = record {
        case = answer_over b.of_old.case c.pin_answer_in.new.known c.settle-search.new.buffers.of_old.case c.pin_answer_in-3.new.known _ _ _
            c.pin_answer_in.ensures.known after.of_old.case c.answer_in-old.ensures c.pin_answer_in-3.ensures.known;
        trial = after.of_old.trial;
        room = after.of_old.room;
      };
      of_new = record {
        case = answer_over b.of_new.case c.pin_answer_in-2.new.known c.settle-search.new.buffers.of_new.case c.pin_answer_in-4.new.known _ _ _
            c.pin_answer_in-2.ensures.known after.of_new.case c.answer_in-new.ensures c.pin_answer_in-4.ensures.known;
        trial = after.of_new.trial;
        room = after.of_new.room;
      };
      old_traces = after.old_traces;
      new_traces = after.new_traces;
    }

pub settle-returns-then-is_one_false-clause-settled : goal.settle-returns-then-is_one_false-clause-settled
settle-returns-then-is_one_false-clause-settled t c =
    λ _. by_assumption c.args.buffers.now.of_old.case c.args.buffers.now.of_new.case (c.is_one_false.ensures.0 c.if-is_one_false.true)

pub settle-returns-in-Alike-clause-settled : goal.settle-returns-in-Alike-clause-settled
settle-returns-in-Alike-clause-settled t c =
    λ _. by_scan c.args.buffers.now.of_old.case c.args.buffers.now.of_new.case (c.look-likeness.ensures.told.0 c.in-Alike.is)
