use Rattle.std.proofs.Common.{◌==◌, arith, refl}
use Rattle.causes_any_state.specs.declared.table.TheConstants.{SETTLED}
use Rattle.io_text.specs.Text.{line_text}
use Rattle.text_causes.proofs.Limits.{added_prefix, lines}
use Rattle.io_text.proofs.Sending.{sends_err}
use Rattle.text_lists.specs.ClassText.{possible_group_record}
use Rattle.text_lists.proofs.Counting.{numbers_fit, row_next, written_more, written_none}
use Rattle.text_lists.proofs.Unsettled.{counted_more, counted_none, some_of}
use Rattle.text_lists.proofs.possible_group_text.add_rows.Goals as goal

pub loop-limit-init : goal.loop-limit-init
loop-limit-init g c = record {
  written = written_none _ c.args.buffer.now (possible_group_record c.args.listed) c.args.listed c.args.limit c.args.groups.now.rest;
  counted = counted_none c.args.listed c.args.limit c.args.groups.now.rest;
  fewer = omega arith;
}

pub overflow_add-written-in-loop-limit : goal.overflow_add-written-in-loop-limit
overflow_add-written-in-loop-limit g c =
    let few = numbers_fit _ _ _ _ (possible_group_record c.args.listed) _ _ _ _ _ _ c.in-Some.row _ c.loop-limit.invariant.written c.in-Some.ensures.steps.0 (c.if-is_reached.ensures.no refl) in
    record { fits = omega (arith, few, c.in_ok-size.ensures.size, c.requires.numbers) }

pub loop-limit-preserved : goal.loop-limit-preserved
loop-limit-preserved g c =
    let so_far = c.loop-limit.invariant in
    let row = c.in-Some.row in
    let short = c.if-is_reached.ensures.no refl in
    let next = row_next _ _ _ _ (possible_group_record c.args.listed) _ _ _ _ _ _ row _ so_far.written c.in-Some.ensures.steps.0 short in
    let some = some_of (row.class == SETTLED) c.in_ok-size.size in
    record {
      written = rw c.in_ok-size.ensures.size
          (written_more _ _ _ _ _ _ (possible_group_record c.args.listed) _ _ _ _ _ _ row _ so_far.written c.in-Some.ensures.steps.0 short (rw c.settled_mark.ensures at c.in_ok-size.ensures.sends));
      counted = rw (c.unsettled.ensures, c.in_ok-size.ensures.size) (counted_more _ _ _ _ _ _ row _ so_far.counted next);
      fewer = omega (arith, so_far.fewer, some, c.unsettled.ensures);
    }

pub returns-in_err-size-clause-sends : goal.returns-in_err-size-clause-sends
returns-in_err-size-clause-sends g c = sends_err _ _ _ _ _ _ c.from_residual.ensures.0
    (added_prefix _ _ _ _ _ (lines (possible_group_record c.args.listed)) _ _ _ c.loop-limit.groups.rest c.in-Some.row _ (line_text (possible_group_record c.args.listed c.in-Some.row))
    (λ left. refl) c.loop-limit.invariant.written.added c.in-Some.ensures.steps.0 (c.if-is_reached.ensures.no refl) (rw c.settled_mark.ensures at c.in_err-size.ensures.sends))
