use Rattle.std.proofs.Common.{◌+◌, ap, arith, inl, inr, map, refl}
use Rattle.search_groups.specs.Groups.{cells}
use Rattle.io_text.proofs.Sending.{sends_err}
use Rattle.diff_causes.specs.GroupCursor.{differences_in}
use Rattle.text_differences.specs.Forms.{names_in}
use Rattle.text_differences.specs.declared.group_text.DifferenceSummary.{DifferenceSummary}
use Rattle.text_differences.proofs.GroupLaws.{differences_fit, rows_fit, taken_err, taken_more, written_all, written_cut, written_more, written_none}
use Rattle.text_differences.proofs.group_text.add_groups.Goals as goal

pub loop-limit-init : goal.loop-limit-init
loop-limit-init g c = written_none _ c.args.buffer.now c.args.view.form c.args.view.side (names_in c.args.view) c.args.groups.now c.args.listed c.args.limit

pub returns-then-is_reached-clause-sends : goal.returns-then-is_reached-clause-sends
returns-then-is_reached-clause-sends g c =
    rw (← c.requires.listed)
    (written_all _ _ _ _ c.args.view.form c.args.view.side (names_in c.args.view) _ _ _ _ _ _ c.loop-limit.invariant (inl (c.if-is_reached.ensures.yes refl)))

pub returns-in_default-clause-sends : goal.returns-in_default-clause-sends
returns-in_default-clause-sends g c =
    rw (← c.requires.listed)
    (written_all _ _ _ _ c.args.view.form c.args.view.side (names_in c.args.view) _ _ _ _ _ _ c.loop-limit.invariant (inr c.in_default.ensures.steps.0.0))

pub returns-in_err-size-clause-sends : goal.returns-in_err-size-clause-sends
returns-in_err-size-clause-sends g c = sends_err _ _ _ _ _ _ c.from_residual.ensures.0
    (rw (← c.requires.listed)
    (written_cut _ _ _ _ c.args.view.form c.args.view.side (names_in c.args.view) _ _ c.next.new.self _ _ _ _ _ c.loop-limit.invariant c.in-Some.ensures.steps.0
    (c.if-is_reached.ensures.no refl) _ c.in_err-size.ensures.sends))

pub returns-in_err-size-clause-taken : goal.returns-in_err-size-clause-taken
returns-in_err-size-clause-taken g c =
    let steps = c.in-Some.ensures.steps in
    let so_far = c.loop-limit.invariant in
    rw (← c.requires.listed)
    (taken_err (λ (s : DifferenceSummary). s.rows) _ _ _ (c.loop-limit.written.rows + 1) _ c.from_residual.ensures.0
    (rows_fit _ _ _ _ c.args.view.form c.args.view.side (names_in c.args.view) _ _ c.next.new.self _ _ _ _ _ so_far steps.0 (c.if-is_reached.ensures.no refl))
    (taken_more _ _ c.next.new.self _ _ so_far.takes steps.0 steps.1))

pub overflow_add-written-in-loop-limit : goal.overflow_add-written-in-loop-limit
overflow_add-written-in-loop-limit g c =
    let few = differences_fit _ _ _ _ c.args.view.form c.args.view.side (names_in c.args.view) _ _ c.next.new.self _ _ _ _ c.in-Some.group c.loop-limit.invariant c.in-Some.ensures.steps.0
    (c.if-is_reached.ensures.no refl) in
    record { fits = omega (arith, few, c.in_ok-size.ensures.size, c.requires.differences, ap (λ k. differences_in (map (cells k) c.args.groups.now.rest)) c.requires.listed) }

pub loop-limit-preserved : goal.loop-limit-preserved
loop-limit-preserved g c =
    let steps = c.in-Some.ensures.steps in
    rw c.in_ok-size.ensures.size
    (written_more _ _ _ _ c.args.view.form c.args.view.side (names_in c.args.view) _ _ c.next.new.self _ _ _ _ c.in-Some.group c.loop-limit.invariant steps.0
    (c.if-is_reached.ensures.no refl) _ _ steps.1 c.in_ok-size.ensures.sends)
