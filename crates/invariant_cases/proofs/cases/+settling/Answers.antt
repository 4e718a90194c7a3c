use Rattle.std.proofs.Common.{◌∙◌, subst, sym}
use Rattle.invariant_cases.proofs.PinnedTwice.{answer_over, case_over, not_not, other_answer, other_case}
use Rattle.invariant_cases.specs.Assuming.{assumed_of}
use Rattle.invariant_cases.specs.Cases.{IsSettledAssuming, by_answers, by_assumption, by_cases, by_partner, by_scan}
use Rattle.invariant_cases.proofs.cases.+settling.Goals as goal

pub settle-returns-then-is_false-clause-settled : goal.settle-returns-then-is_false-clause-settled
settle-returns-then-is_false-clause-settled t c = λ _. by_assumption c.args.buffers.now.case (c.is_false.ensures.0 c.if-is_false.true)

pub settle-returns-then-is_known-clause-settled : goal.settle-returns-then-is_known-clause-settled
settle-returns-then-is_known-clause-settled t c = λ _. by_scan c.args.buffers.now.case (sym c.look-both.ensures.told ∙ c.is_known.ensures.0 c.if-is_known.true)

pub by_partners-returns-clause-settled : goal.by_partners-returns-clause-settled
by_partners-returns-clause-settled t c = λ yes.
    let Settled = IsSettledAssuming c.args.question.program.now (assumed_of c.args.question.assumption) c.args.question.pairs.now c.args.question.target c.args.question.wanted in
    by_partner c.args.buffers.now.case c.in-Some.forced.point c.in-Some.ensures.forced (subst Settled c.pin.ensures.known (c.by_partners-search.ensures.settled yes))

pub by_partners-returns-clause-buffers : goal.by_partners-returns-clause-buffers
by_partners-returns-clause-buffers t c = record {
  case = case_over c.args.buffers.now.case c.pin.new.known c.by_partners-search.new.buffers.case c.pin-2.new.known _ _ _
      c.pin.ensures.known c.by_partners-search.ensures.buffers.case c.told-before.ensures c.pin-2.ensures.known;
  trial = c.by_partners-search.ensures.buffers.trial;
  room = c.by_partners-search.ensures.buffers.room;
}

pub by_values-returns-then-not-on-clause-buffers : goal.by_values-returns-then-not-on-clause-buffers
by_values-returns-then-not-on-clause-buffers t c = record {
  case = case_over c.args.buffers.now.case c.pin.new.known c.by_partners-on.new.buffers.case c.pin-then-not-on.new.known _ _ _
      c.pin.ensures.known c.by_partners-on.ensures.buffers.case c.told-before.ensures c.pin-then-not-on.ensures.known;
  trial = c.by_partners-on.ensures.buffers.trial;
  room = c.by_partners-on.ensures.buffers.room;
}

pub by_values-returns-clause-settled : goal.by_values-returns-clause-settled
by_values-returns-clause-settled t c = λ yes.
    let Settled = IsSettledAssuming c.args.question.program.now (assumed_of c.args.question.assumption) c.args.question.pairs.now c.args.question.target c.args.question.wanted in
    let off = other_case c.args.buffers.now.case c.pin.new.known c.by_partners-on.new.buffers.case c.pin-2.new.known _ _ _
    c.pin.ensures.known c.by_partners-on.ensures.buffers.case c.pin-2.ensures.known in
    by_cases c.args.buffers.now.case _ (subst Settled off (c.settle-off.ensures.settled yes))
    (subst Settled c.pin.ensures.known (c.by_partners-on.ensures.settled (not_not _ c.if-not-on.false)))

pub by_values-returns-clause-buffers : goal.by_values-returns-clause-buffers
by_values-returns-clause-buffers t c =
    let off = other_case c.args.buffers.now.case c.pin.new.known c.by_partners-on.new.buffers.case c.pin-2.new.known _ _ _
    c.pin.ensures.known c.by_partners-on.ensures.buffers.case c.pin-2.ensures.known in
    record {
      case = case_over c.args.buffers.now.case c.pin-2.new.known c.settle-off.new.buffers.case c.pin-3.new.known _ _ _
          off c.settle-off.ensures.buffers.case c.told-before.ensures c.pin-3.ensures.known;
      trial = c.settle-off.ensures.buffers.trial;
      room = c.settle-off.ensures.buffers.room ∙ c.by_partners-on.ensures.buffers.room;
    }

pub by_answers-returns-then-not-on-clause-buffers : goal.by_answers-returns-then-not-on-clause-buffers
by_answers-returns-then-not-on-clause-buffers t c = record {
  case = answer_over c.args.buffers.now.case c.pin_answer.new.known c.settle-on.new.buffers.case c.pin_answer-then-not-on.new.known _ _ _
      c.pin_answer.ensures.known c.settle-on.ensures.buffers.case c.answer-before.ensures c.pin_answer-then-not-on.ensures.known;
  trial = c.settle-on.ensures.buffers.trial;
  room = c.settle-on.ensures.buffers.room;
}

pub by_answers-returns-then-not-off-clause-buffers : goal.by_answers-returns-then-not-off-clause-buffers
by_answers-returns-then-not-off-clause-buffers t c =
    let off = other_answer c.args.buffers.now.case c.pin_answer.new.known c.settle-on.new.buffers.case c.pin_answer-2.new.known _ _ _
    c.pin_answer.ensures.known c.settle-on.ensures.buffers.case c.pin_answer-2.ensures.known in
    record {
      case = answer_over c.args.buffers.now.case c.pin_answer-2.new.known c.settle-off.new.buffers.case c.pin_answer-then-not-off.new.known _ _ _
          off c.settle-off.ensures.buffers.case c.answer-before.ensures c.pin_answer-then-not-off.ensures.known;
      trial = c.settle-off.ensures.buffers.trial;
      room = c.settle-off.ensures.buffers.room ∙ c.settle-on.ensures.buffers.room;
    }

pub by_answers-returns-clause-settled : goal.by_answers-returns-clause-settled
by_answers-returns-clause-settled t c = λ yes.
    let Settled = IsSettledAssuming c.args.question.program.now (assumed_of c.args.question.assumption) c.args.question.pairs.now c.args.question.target c.args.question.wanted in
    let off = other_answer c.args.buffers.now.case c.pin_answer.new.known c.settle-on.new.buffers.case c.pin_answer-2.new.known _ _ _
    c.pin_answer.ensures.known c.settle-on.ensures.buffers.case c.pin_answer-2.ensures.known in
    let input = other_answer c.args.buffers.now.case c.pin_answer-2.new.known c.settle-off.new.buffers.case c.pin_answer-3.new.known _ _ _
    off c.settle-off.ensures.buffers.case c.pin_answer-3.ensures.known in
    by_answers c.args.buffers.now.case _
    (subst Settled off (c.settle-off.ensures.settled (not_not _ c.if-not-off.false)))
    (subst Settled c.pin_answer.ensures.known (c.settle-on.ensures.settled (not_not _ c.if-not-on.false)))
    (subst Settled input (c.settle-input.ensures.settled yes))

pub by_answers-returns-clause-buffers : goal.by_answers-returns-clause-buffers
by_answers-returns-clause-buffers t c =
    let off = other_answer c.args.buffers.now.case c.pin_answer.new.known c.settle-on.new.buffers.case c.pin_answer-2.new.known _ _ _
    c.pin_answer.ensures.known c.settle-on.ensures.buffers.case c.pin_answer-2.ensures.known in
    let input = other_answer c.args.buffers.now.case c.pin_answer-2.new.known c.settle-off.new.buffers.case c.pin_answer-3.new.known _ _ _
    off c.settle-off.ensures.buffers.case c.pin_answer-3.ensures.known in
    record {
      case = answer_over c.args.buffers.now.case c.pin_answer-3.new.known c.settle-input.new.buffers.case c.pin_answer-4.new.known _ _ _
          input c.settle-input.ensures.buffers.case c.answer-before.ensures c.pin_answer-4.ensures.known;
      trial = c.settle-input.ensures.buffers.trial;
      room = c.settle-input.ensures.buffers.room ∙ c.settle-off.ensures.buffers.room ∙ c.settle-on.ensures.buffers.room;
    }
