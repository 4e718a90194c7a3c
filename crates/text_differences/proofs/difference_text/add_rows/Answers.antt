use Rattle.std.proofs.Common.{◌+◌, refl}
use Rattle.io_text.specs.Text.{line_text}
use Rattle.io_text.proofs.Sending.{sends_err}
use Rattle.text_causes.proofs.Limits.{added_prefix, added_within, lines}
use Rattle.text_differences.specs.DifferenceText.{difference_record, part}
use Rattle.text_differences.proofs.RowLaws.{taken_err, taken_more, written_more, written_none}
use Rattle.text_differences.proofs.difference_text.add_rows.Goals as goal

pub loop-upto-init : goal.loop-upto-init
loop-upto-init g c = written_none _ c.args.buffer.now c.args.listed c.args.upto c.args.limit c.args.differences.now

pub returns-in_err-add_row-clause-sends : goal.returns-in_err-add_row-clause-sends
returns-in_err-add_row-clause-sends g c = sends_err _ _ _ _ _ _ c.from_residual.ensures.0
    (added_prefix _ _ _ _ _ (lines (difference_record c.args.listed)) _ _ _ (part c.args.upto c.loop-upto.differences.rest) c.in-Some.difference _
    (line_text (difference_record c.args.listed c.in-Some.difference)) (λ left. refl) c.loop-upto.invariant.added c.in-Some.ensures.part (c.if-is_reached.ensures.no refl)
    c.in_err-add_row.ensures)

pub returns-in_err-add_row-clause-taken : goal.returns-in_err-add_row-clause-taken
returns-in_err-add_row-clause-taken g c =
    let so_far = c.loop-upto.invariant in
    taken_err _ _ _ (c.loop-upto.count + 1) _ c.from_residual.ensures.0
    (added_within _ _ _ _ _ _ _ _ (part c.args.upto c.loop-upto.differences.rest) c.in-Some.difference _ so_far.added c.in-Some.ensures.part (c.if-is_reached.ensures.no refl))
    (taken_more _ c.loop-upto.differences c.next_in.new.differences _ c.in-Some.difference so_far.takes c.in-Some.ensures.gives c.in-Some.ensures.questions)

pub loop-upto-preserved : goal.loop-upto-preserved
loop-upto-preserved g c =
    written_more _ _ _ _ _ _ c.args.listed c.args.upto c.args.limit _ c.loop-upto.differences c.next_in.new.differences _ c.in-Some.difference c.loop-upto.invariant
    c.in-Some.ensures.part c.in-Some.ensures.gives c.in-Some.ensures.questions (c.if-is_reached.ensures.no refl) c.in_ok-add_row.ensures
