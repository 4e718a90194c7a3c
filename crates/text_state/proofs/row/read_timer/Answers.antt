use Rattle.std.proofs.Common.{rules, ◌≡◌, ◌∙◌, Some, None, refl, sym, decimal, arith}
use Rattle.std.proofs.lemmas.Fmt.{decimal_injective}
use Rattle.std.proofs.lemmas.Option.{same_Some}
use Rattle.text_state.proofs.Items.{as_timer, same_timer, timer_last, timer_q, timer_running, timer_start}
use Rattle.text_state.proofs.row.read_timer.Goals as goal

pub returns-in_default-clause-none : goal.returns-in_default-clause-none
returns-in_default-clause-none c = λ _ s h.
    let t = as_timer _ c.args.moment _ s h in
    let bad : None ≡ Some (decimal t.n) = c.in_default.ensures.value ∙ timer_start _ _ t.l t.r _ t.q t.same in cc

pub returns-in_default-read_number-clause-none : goal.returns-in_default-read_number-clause-none
returns-in_default-read_number-clause-none c = λ _ s h.
    let t = as_timer _ c.args.moment _ s h in
    c.in_default-read_number.ensures.none refl t.n (omega (arith, t.before)) (same_Some _ _ (c.in-Some.ensures.value ∙ timer_start _ _ t.l t.r _ t.q t.same))

pub returns-then-not-is_possible-clause-none : goal.returns-then-not-is_possible-clause-none
returns-then-not-is_possible-clause-none c = λ _ s h.
    let t = as_timer _ c.args.moment _ s h in
    let same = same_Some _ _ (c.in-Some.ensures.value ∙ timer_start _ _ t.l t.r _ t.q t.same) in
    let start = decimal_injective c.in-Some-read_number.start t.n (search rules) (omega (arith, t.before)) (sym c.in-Some-read_number.ensures.some ∙ same) in
    let running = c.is_on-running.ensures ∙ timer_running _ _ t.l t.r _ t.q t.same in
    let late = c.if-not-is_possible.ensures.no refl (λ e. start ∙ t.stopped (sym running ∙ e)) in
    omega (arith, late, start, t.before)

pub returns-then-not-is_timer-clause-none : goal.returns-then-not-is_timer-clause-none
returns-then-not-is_timer-clause-none c = λ _ s h.
    let t = as_timer _ c.args.moment _ s h in
    let same = same_Some _ _ (c.in-Some.ensures.value ∙ timer_start _ _ t.l t.r _ t.q t.same) in
    let last = c.is_on-last.ensures ∙ timer_last _ _ t.l t.r _ t.q t.same in
    let running = c.is_on-running.ensures ∙ timer_running _ _ t.l t.r _ t.q t.same in
    let q = c.is_on-q.ensures ∙ timer_q _ _ t.l t.r _ t.q t.same in
    c.if-not-is_timer.ensures.other refl (t.same ∙ same_timer _ _ _ _ _ _ _ _ _ _ _ _ c.bit_field.ensures c.bit_field-2.ensures c.bit_field-3.ensures last running same q)
