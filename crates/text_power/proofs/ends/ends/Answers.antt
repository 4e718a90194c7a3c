use Rattle.std.proofs.Common.{◌≡◌, ◌∙◌, ◌&&◌, ◌||◌, ◌==◌, Bool, true, false, not, cond, ap, sym, refl, inl, inr}
use Rattle.scan_cycle.specs.Cells.{place_at}
use Rattle.diagram_program.specs.declared.cell.Cell.{Cell}
use Rattle.diagram_program.specs.declared.cell.Cell.TheVariants.{Block, Contact}
use Rattle.diagram_program.specs.Program.{is_block}
use Rattle.text_power.specs.Why.{is_closed}
use Rattle.text_power.proofs.RouteEnds.{past_ended}
use Rattle.text_power.proofs.ends.ends.Goals as goal

closed : (ended live here : Bool) → (ended || ((live && false) && here)) ≡ ended
closed true live here = refl
closed false true here = refl
closed false false here = refl

shut : (ended live here : Bool) → (ended || ((live && true) && here)) ≡ (ended || (live && here))
shut ended true here = refl
shut ended false here = refl

pub returns-in-Block : goal.returns-in-Block
returns-in-Block c =
    let x = c.args.rung in
    sym (past_ended x.program.now x.marks.now x.number c.args.end c.args.row c.args.column c.mark_in-mark.result (Block c.in-Block.inst) true c.args.live c.args.ended
    c.requires.row (sym c.in-Block.is ∙ c.cell.ensures) c.mark_in-mark.ensures refl c.requires.live c.requires.ended)

pub returns-in-Wire : goal.returns-in-Wire
returns-in-Wire c =
    let x = c.args.rung in
    let m = c.mark_in-mark.result in
    let here = place_at c.args.row c.args.column == c.args.end in
    let past = λ (y : Cell). cond (is_block y) (not m.right && here) (c.args.ended || ((c.args.live && not (is_closed m y)) && here)) in
    sym (past_ended x.program.now x.marks.now x.number c.args.end c.args.row c.args.column m c.cell.result (is_block c.cell.result) c.args.live c.args.ended
    c.requires.row c.cell.ensures c.mark_in-mark.ensures refl c.requires.live c.requires.ended
    ∙ elim c.in-Wire.is [
      | inl wire ↦ ap past wire ∙ closed c.args.ended c.args.live here
      | inr (mode, var, memory, coil) ↦ ap past coil ∙ closed c.args.ended c.args.live here
    ])

pub returns-in-Contact : goal.returns-in-Contact
returns-in-Contact c =
    let x = c.args.rung in
    sym (past_ended x.program.now x.marks.now x.number c.args.end c.args.row c.args.column c.mark_in-mark.result (Contact c.in-Contact.mode c.in-Contact.operand c.in-Contact.memory) false c.args.live c.args.ended
    c.requires.row (sym c.in-Contact.is ∙ c.cell.ensures) c.mark_in-mark.ensures refl c.requires.live c.requires.ended)

pub returns-in-Empty : goal.returns-in-Empty
returns-in-Empty c =
    let x = c.args.rung in
    let m = c.mark_in-mark.result in
    let here = place_at c.args.row c.args.column == c.args.end in
    let past = λ (y : Cell). cond (is_block y) (not m.right && here) (c.args.ended || ((c.args.live && not (is_closed m y)) && here)) in
    sym (past_ended x.program.now x.marks.now x.number c.args.end c.args.row c.args.column m c.cell.result (is_block c.cell.result) c.args.live c.args.ended
    c.requires.row c.cell.ensures c.mark_in-mark.ensures refl c.requires.live c.requires.ended
    ∙ elim c.in-Empty.is [
      | inl empty ↦ ap past empty ∙ shut c.args.ended c.args.live here
      | inr (inl (inst, second, lower)) ↦ ap past lower ∙ shut c.args.ended c.args.live here
      | inr (inr (inl (target, jump))) ↦ ap past jump ∙ shut c.args.ended c.args.live here
      | inr (inr (inr return)) ↦ ap past return ∙ shut c.args.ended c.args.live here
    ])
