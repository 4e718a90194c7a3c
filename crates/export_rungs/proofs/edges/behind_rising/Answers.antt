use Rattle.std.proofs.Common.{ℕ, List, refl, subst}
use Rattle.diagram_program.specs.declared.gates.Action.{Action}
use Rattle.export_rungs.specs.Forms.{IsAssignment}
use Rattle.export_rungs.specs.Steps.{Shows}
use Rattle.export_rungs.proofs.By.{rising_by}
use Rattle.export_rungs.proofs.edges.behind_rising.Goals as goal

pub returns : goal.returns
returns c =
    rising_by c.args.at.scan.program.now c.args.at.scan.variables c.args.at.scan.jumps c.args.at.rung c.args.at.known.now c.args.before.now c.args.action
    c.in_ok-var.var c.in_ok-var.memory c.in_ok-own.own c.in_ok-variable.value.now c.in_ok-power.power.now c.in_ok-power.remembered.now c.in_ok-kept.kept.now
    c.in_ok-written.later.now c.in_ok-written.next.now c.in_ok-variable.more.now c.args.list.now c.in_ok-var.ensures (c.if-not-is_own.ensures refl) c.in_ok-own.ensures
    (subst (λ (v : ℕ). IsAssignment v c.in_ok-variable.value.now c.in_ok-variable.more.now c.args.list.now) c.if-variable-var.false c.in_ok-variable.ensures)
    c.in_ok-power.ensures c.in_ok-kept.ensures (c.if-not-is_variable.ensures refl)
    (subst (λ (v : ℕ). IsAssignment v c.in_ok-written.later.now c.in_ok-written.next.now c.in_ok-variable.more.now) c.if-written-own.false c.in_ok-written.ensures)
    (c.if-not-shows.ensures refl)
    (subst (λ (xs : List Action). Shows c.args.at.scan.program.now c.args.at.rung xs c.args.at.known.now c.args.action.place c.in_ok-written.later.now) c.requires (c.if-not-shows-2.ensures refl))
