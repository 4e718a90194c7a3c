use Rattle.std.proofs.Common.{ℕ, refl, subst}
use Rattle.export_rungs.specs.Forms.{IsAssignment}
use Rattle.export_rungs.proofs.By.{inverse_by}
use Rattle.export_rungs.proofs.cells.behind_inverse.Goals as goal

pub returns : goal.returns
returns c =
    inverse_by c.args.at.scan.program.now c.args.at.scan.variables c.args.at.scan.jumps c.args.at.rung c.args.at.known.now c.args.done.now c.args.action
    c.in_ok-var.var c.in_ok-variable.value.now c.in_ok-power.power.now c.in_ok-variable.next.now c.args.list.now c.in_ok-var.ensures (c.if-not-is_own.ensures refl)
    (subst (λ (v : ℕ). IsAssignment v c.in_ok-variable.value.now c.in_ok-variable.next.now c.args.list.now) c.if-variable-var.false c.in_ok-variable.ensures)
    c.in_ok-power.ensures (c.if-not-shows.ensures refl)
