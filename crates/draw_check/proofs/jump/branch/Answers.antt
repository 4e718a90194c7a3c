use Rattle.std.proofs.Common.{◌∙◌, refl, sym}
use Rattle.draw_check.proofs.Rungs.{branches}
use Rattle.draw_check.proofs.jump.branch.Goals as goal

pub returns : goal.returns
returns c =
    branches c.args.network.program.now 0 c.args.network.rung c.args.network.helpers.now c.requires c.in_ok-row.row c.in_ok-row.column c.in_ok-row.target
    (sym c.jump.ensures ∙ c.in_ok-row.was) (c.if-not-is_idle.ensures refl) c.args.on c.args.condition.now (c.if-not-is_link.ensures refl)
