use Rattle.std.proofs.Common.{◌+◌, refl}
use Rattle.io_text.specs.Text.{line_text}
use Rattle.io_text.proofs.Sending.{sends_err}
use Rattle.text_causes.proofs.Limits.{added_prefix, added_within, lines}
use Rattle.text_held_differences.specs.HeldText.{held_difference_record}
use Rattle.text_held_differences.proofs.HeldLaws.{taken_err, taken_more, written_more, written_none}
use Rattle.text_held_differences.proofs.held.add_rows.Goals as goal

pub loop-limit-init : goal.loop-limit-init
loop-limit-init g c = written_none _ c.args.buffer.now c.args.listed c.args.limit c.args.differences.now

pub returns-in_err-add_row-clause-sends : goal.returns-in_err-add_row-clause-sends
returns-in_err-add_row-clause-sends g c = sends_err _ _ _ _ _ _ c.from_residual.ensures.0
    (added_prefix _ _ _ _ _ (lines (held_difference_record c.args.listed)) _ _ _ c.loop-limit.differences.rest c.in-Some.difference _
    (line_text (held_difference_record c.args.listed c.in-Some.difference)) (λ left. refl) c.loop-limit.invariant.added c.in-Some.ensures.steps.0
    (c.if-is_reached.ensures.no refl) c.in_err-add_row.ensures)

pub returns-in_err-add_row-clause-taken : goal.returns-in_err-add_row-clause-taken
returns-in_err-add_row-clause-taken g c =
    let so_far = c.loop-limit.invariant in
    let steps = c.in-Some.ensures.steps in
    taken_err _ _ _ (c.loop-limit.count + 1) _ c.from_residual.ensures.0
    (added_within _ _ _ _ _ _ _ _ c.loop-limit.differences.rest c.in-Some.difference _ so_far.added steps.0 (c.if-is_reached.ensures.no refl))
    (taken_more _ c.loop-limit.differences c.next.new.self _ c.in-Some.difference so_far.takes steps.0 steps.1)

pub loop-limit-preserved : goal.loop-limit-preserved
loop-limit-preserved g c =
    let steps = c.in-Some.ensures.steps in
    written_more _ _ _ _ _ _ c.args.listed c.args.limit _ c.loop-limit.differences c.next.new.self _ c.in-Some.difference c.loop-limit.invariant
    steps.0 steps.1 (c.if-is_reached.ensures.no refl) c.in_ok-add_row.ensures
