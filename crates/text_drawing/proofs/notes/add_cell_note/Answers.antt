use Rattle.std.proofs.Common.{◌∙◌, ap, sym}
use Rattle.diagram_declarations.specs.Decls.{Declared}
use Rattle.text_drawing.specs.Notes.{cell_note, instance_note}
use Rattle.text_drawing.proofs.Gets.{got}
use Rattle.text_drawing.proofs.Noted.{sends_as}
use Rattle.text_drawing.proofs.notes.add_cell_note.Goals as goal

pub returns-in-Block : goal.returns-in-Block
returns-in-Block g c =
    let x = c.args.picture in
    let found = c.get.ensures.lookup in
    let instances = c.instances.ensures.value ∙ ap (λ (d : Declared). d.instances) c.decls.ensures in
    sends_as _ _ _ _ _ _ (cell_note x.program.now x.after.now c.args.cell)
    (ap (instance_note x.after.now c.in-Block.inst) (got x.program.now.decls.instances c.instances.result.now c.in-Block.inst c.get.result instances found.0 found.1)
    ∙ ap (cell_note x.program.now x.after.now) (sym c.in-Block.is))
    c.add_instance_note.ensures
