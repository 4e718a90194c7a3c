use Rattle.std.proofs.Common.{◌<◌, refl, subst}
use Rattle.io_text.proofs.Sending.{sends_err}
use Rattle.text_power.specs.Why.{rung_why}
use Rattle.text_power.proofs.Each.{cut_off, more, none_yet}
use Rattle.text_power.proofs.why.add_why.Goals as goal

pub loop-number-init : goal.loop-number-init
loop-number-init g c = none_yet _ _ _

pub returns-in_err-add_rung_why : goal.returns-in_err-add_rung_why
returns-in_err-add_rung_why g c = sends_err _ _ _ _ _ _ c.from_residual.ensures.0
    (cut_off (rung_why c.args.program.now c.args.marks.now c.args.var) c.args.program.now.rungs c.loop-number.number _ _ _ _ _ _ (subst (λ n. c.loop-number.number < n) c.rungs-number-end.ensures.value c.loop-number-test.true) refl
    c.loop-number.invariant c.in_err-add_rung_why.ensures)

pub loop-number-preserved : goal.loop-number-preserved
loop-number-preserved g c =
    more (rung_why c.args.program.now c.args.marks.now c.args.var) c.loop-number.number _ _ _ _ _ _ _ refl c.loop-number.invariant c.in_ok-add_rung_why.ensures
