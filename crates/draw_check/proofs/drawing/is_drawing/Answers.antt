use Rattle.std.proofs.Common.{ℕ, subst}
use Rattle.std.proofs.lemmas.Bool.{eqb-true}
use Rattle.draw_check.specs.Steps.{Draws}
use Rattle.draw_check.proofs.Onward.{there}
use Rattle.draw_check.proofs.Whole.{whole}
use Rattle.draw_check.proofs.drawing.is_drawing.Goals as goal

pub returns-in-Some : goal.returns-in-Some
returns-in-Some c =
    let p = c.args.plan.program.now in
    let n = c.args.plan.variables in
    λ t. whole p n c.args.list.now c.scan_follows_jumps.ensures
    (subst (λ (k : ℕ). Draws p n c.args.list.now 0 k) c.rungs.ensures.value
    (subst (λ (k : ℕ). Draws p n c.args.list.now 0 k) (eqb-true c.in-Some.end c.rungs.result t)
    (there c.in_ok-end.field-0 c.in-Some.end (λ k. Draws p n c.args.list.now 0 k) c.in-Some.is c.in_ok-end.ensures.draws)))
