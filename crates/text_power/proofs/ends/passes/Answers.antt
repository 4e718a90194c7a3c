use Rattle.std.proofs.Common.{◌≡◌, ◌∙◌, ◌&&◌, Bool, true, false, cond, ap, sym, refl, inl, inr}
use Rattle.diagram_program.specs.declared.cell.Cell.{Cell}
use Rattle.diagram_program.specs.declared.cell.Cell.TheVariants.{Block, Contact}
use Rattle.diagram_program.specs.Program.{is_block}
use Rattle.text_power.specs.Why.{is_closed}
use Rattle.text_power.proofs.RouteEnds.{past_live}
use Rattle.text_power.proofs.ends.passes.Goals as goal

always : (b : Bool) → (b && true) ≡ b
always true = refl
always false = refl

never : (b : Bool) → (b && false) ≡ false
never true = refl
never false = refl

pub returns-in-Block : goal.returns-in-Block
returns-in-Block c =
    let x = c.args.rung in
    sym (past_live x.program.now x.marks.now x.number c.args.row c.args.column c.mark_in-mark.result (Block c.in-Block.inst) true c.args.live
    c.requires.row (sym c.in-Block.is ∙ c.cell.ensures) c.mark_in-mark.ensures refl c.requires.live)

pub returns-in-Wire : goal.returns-in-Wire
returns-in-Wire c =
    let x = c.args.rung in
    let m = c.mark_in-mark.result in
    let past = λ (y : Cell). cond (is_block y) m.right (c.args.live && is_closed m y) in
    sym (past_live x.program.now x.marks.now x.number c.args.row c.args.column m c.cell.result (is_block c.cell.result) c.args.live
    c.requires.row c.cell.ensures c.mark_in-mark.ensures refl c.requires.live
    ∙ elim c.in-Wire.is [ inl wire ↦ ap past wire ∙ always c.args.live | inr (mode, var, memory, coil) ↦ ap past coil ∙ always c.args.live ])

pub returns-in-Contact : goal.returns-in-Contact
returns-in-Contact c =
    let x = c.args.rung in
    sym (past_live x.program.now x.marks.now x.number c.args.row c.args.column c.mark_in-mark.result (Contact c.in-Contact.mode c.in-Contact.operand c.in-Contact.memory) false c.args.live
    c.requires.row (sym c.in-Contact.is ∙ c.cell.ensures) c.mark_in-mark.ensures refl c.requires.live)

pub returns-in-Empty : goal.returns-in-Empty
returns-in-Empty c =
    let x = c.args.rung in
    let m = c.mark_in-mark.result in
    let past = λ (y : Cell). cond (is_block y) m.right (c.args.live && is_closed m y) in
    sym (past_live x.program.now x.marks.now x.number c.args.row c.args.column m c.cell.result (is_block c.cell.result) c.args.live
    c.requires.row c.cell.ensures c.mark_in-mark.ensures refl c.requires.live
    ∙ elim c.in-Empty.is [
      | inl empty ↦ ap past empty ∙ never c.args.live
      | inr (inl (inst, second, lower)) ↦ ap past lower ∙ never c.args.live
      | inr (inr (inl (target, jump))) ↦ ap past jump ∙ never c.args.live
      | inr (inr (inr return)) ↦ ap past return ∙ never c.args.live
    ])
