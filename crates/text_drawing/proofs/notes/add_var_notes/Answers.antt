use Rattle.std.proofs.Common.{◌<◌, List, arith, ap, length, refl}
use Rattle.diagram_declarations.specs.Decls.{Declared}
use Rattle.diagram_declarations.specs.declared.decls.Var.{Var}
use Rattle.io_text.proofs.Sending.{sends_err}
use Rattle.text_drawing.specs.Notes.{numbered_note}
use Rattle.text_power.proofs.Each.{cut_off, more, none_yet}
use Rattle.text_drawing.proofs.notes.add_var_notes.Goals as goal

pub loop-number-init : goal.loop-number-init
loop-number-init g c = record { sent = none_yet _ _ _; many = refl; few = omega arith }

pub returns-in_err-add_numbered_note : goal.returns-in_err-add_numbered_note
returns-in_err-add_numbered_note g c = sends_err _ _ _ _ _ _ c.from_residual.ensures.0
    (let inside : c.loop-number.number < length c.args.picture.program.now.decls.vars = omega (arith, c.loop-number-test.true, ap (λ (vs : List Var). length vs) c.vars-vars.ensures.value, ap (λ (d : Declared). length d.vars) c.decls.ensures) in
    cut_off (numbered_note c.args.gap.now c.args.inputs c.args.picture.program.now.decls c.args.picture.after.now) (length c.args.picture.program.now.decls.vars) c.loop-number.number _ _ _ _ _ _
    inside refl c.loop-number.invariant.sent c.in_err-add_numbered_note.ensures)

pub loop-number-preserved : goal.loop-number-preserved
loop-number-preserved g c = record {
  sent = more (numbered_note c.args.gap.now c.args.inputs c.args.picture.program.now.decls c.args.picture.after.now) c.loop-number.number _ _ _ _ _ _ _ refl c.loop-number.invariant.sent
      c.in_ok-add_numbered_note.ensures;
  many = rw (c.vars-vars.ensures.value, c.decls.ensures) at c.noted_with-many.ensures.value;
  few = c.noted_with-many.ensures.few;
}
