use Rattle.std.proofs.Common.{◌∙◌, ap, sym}
use Rattle.diagram_declarations.specs.Decls.{Declared}
use Rattle.text_drawing.specs.Notes.{numbered_note}
use Rattle.text_drawing.proofs.Gets.{found, missed}
use Rattle.text_drawing.proofs.Noted.{not_among, not_declared, sends_as, value_noted}
use Rattle.text_drawing.proofs.notes.add_numbered_note.Goals as goal

pub returns-then-is_among : goal.returns-then-is_among
returns-then-is_among g c =
    let x = c.args.picture in
    let lookup = c.in-Some.ensures.lookup in
    let vars = c.vars.ensures.value ∙ ap (λ (d : Declared). d.vars) c.decls.ensures in
    sends_as _ _ _ _ _ _ (numbered_note c.args.gap.now c.args.inputs x.program.now.decls x.after.now c.args.number)
    (value_noted c.args.gap.now c.args.inputs x.program.now.decls x.after.now c.args.number c.args.many c.in-Some.var.now _ _
    (found x.program.now.decls.vars c.vars.result.now c.args.number c.in-Some.var.now vars lookup.0 lookup.1)
    (sym c.is_among.ensures ∙ c.if-is_among.true) c.requires c.bytes.ensures.spelling c.value_or_off-value.ensures)
    c.add_value.ensures

pub returns-else-is_among : goal.returns-else-is_among
returns-else-is_among g c =
    let x = c.args.picture in
    let lookup = c.in-Some.ensures.lookup in
    let vars = c.vars.ensures.value ∙ ap (λ (d : Declared). d.vars) c.decls.ensures in
    sends_as _ _ _ _ _ _ (numbered_note c.args.gap.now c.args.inputs x.program.now.decls x.after.now c.args.number)
    (not_among c.args.gap.now c.args.inputs x.program.now.decls x.after.now c.args.number c.in-Some.var.now
    (found x.program.now.decls.vars c.vars.result.now c.args.number c.in-Some.var.now vars lookup.0 lookup.1)
    (sym c.is_among.ensures ∙ c.if-is_among.false))
    c.add.ensures

pub returns-in-None : goal.returns-in-None
returns-in-None g c =
    let x = c.args.picture in
    let vars = c.vars.ensures.value ∙ ap (λ (d : Declared). d.vars) c.decls.ensures in
    sends_as _ _ _ _ _ _ (numbered_note c.args.gap.now c.args.inputs x.program.now.decls x.after.now c.args.number)
    (not_declared c.args.gap.now c.args.inputs x.program.now.decls x.after.now c.args.number
    (missed x.program.now.decls.vars c.vars.result.now c.args.number vars c.in-None.ensures.lookup.0))
    c.add-in-None.ensures
