use Rattle.std.proofs.Common.{◌∙◌, Some}
use Rattle.invariant_cases.specs.declared.answer.Answer.TheVariants.{On}
use Rattle.diff_cases.proofs.PinnedBack.{answer_over}
use Rattle.diff_cases.proofs.choosing.open_step.Goals as goal

pub returns : goal.returns
returns c =
    let scanned = c.scan_case.ensures.buffers in
    let opened = c.open_within-open.ensures in
    record {
      case = answer_over c.scan_case.new.buffers.case c.pin_answer_in.new.known c.open_within-open.new.buffers.case c.pin_answer_in-2.new.known (Some c.args.inst) On c.answer_in-before.result
          c.pin_answer_in.ensures.known opened.case c.answer_in-before.ensures c.pin_answer_in-2.ensures.known ∙ scanned.case;
      trial = opened.trial;
      room = opened.room ∙ scanned.room;
    }
