use Rattle.std.proofs.Common.{refl, sym, subst, List}
use Rattle.diagram_program.specs.declared.gates.Action.{Action}
use Rattle.draw_check.specs.Groups.{Take}
use Rattle.draw_check.proofs.Onward.{onward}
use Rattle.draw_check.proofs.Taking.{take_none, take_by}
use Rattle.draw_check.proofs.coils.+take_coils.Goals as goal

pub returns-in_default-clause-take : goal.returns-in_default-clause-take
returns-in_default-clause-take t c =
    subst (λ (xs : List Action). Take c.args.network.program.now c.args.variables c.args.network.rung c.args.network.helpers.now xs c.args.list.now c.args.list.now) (sym (c.in_default.ensures.none refl))
    (take_none c.args.network.program.now c.args.variables c.args.network.rung c.args.network.helpers.now c.args.list.now)

pub returns-clause-take : goal.returns-clause-take
returns-clause-take t c =
    onward c.take_coils.result _ _ c.take_coils.ensures.take
    (λ rest others. subst (λ (xs : List Action). Take c.args.network.program.now c.args.variables c.args.network.rung c.args.network.helpers.now xs c.args.list.now rest.now) (sym c.in-Some.ensures.first)
    (take_by c.args.network.program.now c.args.variables c.args.network.rung c.args.network.helpers.now c.in-Some.action c.in-Some.more.now c.args.list.now c.in_ok-next.next.now rest.now c.in_ok-next.ensures.coil others))
