use Rattle.std.proofs.Common.{ℕ, refl, subst}
use Rattle.export_rungs.specs.Forms.{IsAssignment}
use Rattle.export_rungs.proofs.By.{edge_by}
use Rattle.export_rungs.proofs.cells.behind_edge.Goals as goal

pub returns : goal.returns
returns c =
    edge_by c.args.at.scan.program.now c.args.at.scan.variables c.args.at.scan.jumps c.args.at.rung c.args.at.known.now c.args.done.now c.args.action
    c.in_ok-operand.ensures.0 c.in_ok-operand.operand c.in_ok-operand.memory c.in_ok-own.own
    c.in_ok-variable.value.now c.in_ok-variable.next.now c.args.list.now c.in_ok-operand.ensures.1 c.in_ok-own.ensures
    (subst (λ (v : ℕ). IsAssignment v c.in_ok-variable.value.now c.in_ok-variable.next.now c.args.list.now) c.if-variable-own.false c.in_ok-variable.ensures)
    (c.if-not-begins.ensures refl)
