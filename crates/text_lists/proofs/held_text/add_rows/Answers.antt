use Rattle.std.proofs.Common.{◌∙◌, add-one, ap, drop, refl, sym}
use Rattle.io_text.specs.Text.{line_text}
use Rattle.text_lists.specs.HeldText.{held_record}
use Rattle.text_causes.proofs.Limits.{added_prefix, added_more, added_none, lines}
use Rattle.text_causes.proofs.Taking.{dropped_one}
use Rattle.io_text.proofs.Sending.{sends_err}
use Rattle.text_lists.proofs.held_text.add_rows.Goals as goal

pub loop-limit-init : goal.loop-limit-init
loop-limit-init g c = record {
  added = added_none _ c.args.buffer.now (lines (held_record c.args.listed)) c.args.limit c.args.causes.now.rest;
  left = refl;
}

pub loop-limit-preserved : goal.loop-limit-preserved
loop-limit-preserved g c =
    let steps = c.in-Some.ensures.steps in
    record {
      added = added_more _ _ _ _ _ _ _ _ _ _ c.loop-limit.causes.rest c.in-Some.cause _ (line_text (held_record c.args.listed c.in-Some.cause)) (λ left. refl) c.loop-limit.invariant.added steps.0
          (c.if-is_reached.ensures.no refl) c.in_ok-add_row.ensures;
      left = dropped_one c.args.causes.now.rest _ c.in-Some.cause c.loop-limit.count (sym c.loop-limit.invariant.left ∙ steps.0)
          ∙ ap (λ m. drop m c.args.causes.now.rest) (sym (add-one c.loop-limit.count));
    }

pub returns-in_err-add_row-clause-sends : goal.returns-in_err-add_row-clause-sends
returns-in_err-add_row-clause-sends g c = sends_err _ _ _ _ _ _ c.from_residual.ensures.0
    (added_prefix _ _ _ _ _ (lines (held_record c.args.listed)) _ _ _ c.loop-limit.causes.rest c.in-Some.cause _ (line_text (held_record c.args.listed c.in-Some.cause)) (λ left. refl) c.loop-limit.invariant.added c.in-Some.ensures.steps.0
    (c.if-is_reached.ensures.no refl) c.in_err-add_row.ensures)
