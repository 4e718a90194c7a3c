use Rattle.std.proofs.Common.{arith, refl}
use Rattle.io_text.specs.Text.{line_text}
use Rattle.text_causes.proofs.Limits.{added_prefix, lines}
use Rattle.io_text.proofs.Sending.{sends_err}
use Rattle.text_lists.specs.ClassText.{held_group_record}
use Rattle.text_lists.proofs.Counting.{numbers_fit, written_more, written_none}
use Rattle.text_lists.proofs.held_group_text.add_rows.Goals as goal

pub loop-limit-init : goal.loop-limit-init
loop-limit-init g c = written_none _ c.args.buffer.now (held_group_record c.args.listed) c.args.listed c.args.limit c.args.groups.now.rest

pub overflow_add-written-in-loop-limit : goal.overflow_add-written-in-loop-limit
overflow_add-written-in-loop-limit g c =
    let few = numbers_fit _ _ _ _ (held_group_record c.args.listed) _ _ _ _ _ _ c.in-Some.row _ c.loop-limit.invariant c.in-Some.ensures.steps.0 (c.if-is_reached.ensures.no refl) in
    record { fits = omega (arith, few, c.in_ok-size.ensures.size, c.requires.causes) }

pub loop-limit-preserved : goal.loop-limit-preserved
loop-limit-preserved g c =
    rw c.in_ok-size.ensures.size
    (written_more _ _ _ _ _ _ (held_group_record c.args.listed) _ _ _ _ _ _ c.in-Some.row _ c.loop-limit.invariant c.in-Some.ensures.steps.0
    (c.if-is_reached.ensures.no refl) (rw c.from.ensures at c.in_ok-size.ensures.sends))

pub returns-in_err-size-clause-sends : goal.returns-in_err-size-clause-sends
returns-in_err-size-clause-sends g c = sends_err _ _ _ _ _ _ c.from_residual.ensures.0
    (added_prefix _ _ _ _ _ (lines (held_group_record c.args.listed)) _ _ _ c.loop-limit.groups.rest c.in-Some.row _ (line_text (held_group_record c.args.listed c.in-Some.row))
    (λ left. refl) c.loop-limit.invariant.added c.in-Some.ensures.steps.0 (c.if-is_reached.ensures.no refl) (rw c.from.ensures at c.in_err-size.ensures.sends))
