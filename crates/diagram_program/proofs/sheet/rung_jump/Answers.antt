use Rattle.std.proofs.Common.{◌≡◌, arith, ap, ◌∙◌}
use Rattle.diagram_program.specs.declared.geometry.TheConstants.{PLACES}
use Rattle.diagram_program.specs.Sheet.{drawing_of}
use Rattle.diagram_program.proofs.JumpLaws.{first_jump, last_jump}
use Rattle.diagram_program.proofs.sheet.rung_jump.Goals as goal

pub returns : goal.returns
returns c =
    let d = drawing_of c.args.sheet in
    let at_end : c.loop-at.at ≡ PLACES = omega (arith, c.loop-at-test.false, c.loop-at.auto.at-end) in
    c.loop-at.invariant ∙ ap (first_jump d c.args.rung) at_end ∙ last_jump d c.args.rung
