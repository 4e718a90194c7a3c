use Rattle.std.proofs.Common.{ℕ, refl, subst}
use Rattle.export_rungs.specs.Forms.{IsCalled}
use Rattle.export_rungs.proofs.By.{call_by}
use Rattle.export_rungs.proofs.cells.behind_call.Goals as goal

pub returns : goal.returns
returns c =
    call_by c.args.at.scan.program.now c.args.at.scan.variables c.args.at.scan.jumps c.args.at.rung c.args.at.known.now c.args.done.now c.args.action
    c.checked.ensures c.in-Block.inst c.in_ok-call.call.first.now c.in_ok-call.call.second.now c.in_ok-call.call.next.now c.args.list.now
    c.in-Block.is (c.if-not-is_new.ensures.there refl) (c.if-not-is_new.ensures.small refl) (c.if-not-is_new.ensures.new refl)
    (subst (λ (i : ℕ). IsCalled i c.in_ok-call.call.first.now c.in_ok-call.call.second.now c.in_ok-call.call.next.now c.args.list.now) c.if-call-inst.false c.in_ok-call.ensures)
    (c.if-not-shows.ensures refl) (c.if-not-shows_second.ensures refl)
