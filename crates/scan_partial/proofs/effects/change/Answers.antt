use Rattle.std.proofs.Common.{◌∙◌, ◌<◌, ap, arith, length, false, sym}
use Rattle.diagram_program.specs.declared.cell.Cell.{Cell}
use Rattle.diagram_program.specs.declared.cell.Cell.TheVariants.{Coil, Block}
use Rattle.scan_cycle.specs.Programs.{diagram_of}
use Rattle.scan_cycle.specs.Gating.{among}
use Rattle.scan_symbolic.specs.KnownScan.{changed_in}
use Rattle.scan_partial.proofs.Acting.{link_read}
use Rattle.scan_partial.proofs.effects.change.Goals as goal

pub returns-in-Coil : goal.returns-in-Coil
returns-in-Coil g c =
    let o = g.S.Operations.algebra in
    let w = g.B.Keep.keeping in
    let d = diagram_of c.args.scene.program.now in
    let a = c.args.action.now in
    let links = c.args.links.now in
    let inside : a.left < length links = omega (arith, c.requires.links, c.requires.action.1) in
    let below = among o links a.below in
    let changed = λ (cell : Cell) (x : _). changed_in o w d c.args.scene.now c.args.start.now c.args.guard cell x below c.args.known.now in
    c.write.ensures d c.args.scene.now c.args.start.now below
    ∙ ap (changed (Coil c.in-Coil.mode c.in-Coil.var c.in-Coil.memory)) (link_read links a.left c.index-links-action.result (o.known false) inside c.index-links-action.is)
    ∙ ap (λ (cell : Cell). changed cell (among o links a.left)) (sym c.in-Coil.is)

pub returns-in-Block : goal.returns-in-Block
returns-in-Block g c =
    let o = g.S.Operations.algebra in
    let w = g.B.Keep.keeping in
    let d = diagram_of c.args.scene.program.now in
    let a = c.args.action.now in
    let links = c.args.links.now in
    let inside : a.left < length links = omega (arith, c.requires.links, c.requires.action.1) in
    let inside_too : a.below < length links = omega (arith, c.requires.links, c.requires.action.2) in
    let changed = λ (cell : Cell) (x y : _). changed_in o w d c.args.scene.now c.args.start.now c.args.guard cell x y c.args.known.now in
    c.step.ensures c.args.start.now
    ∙ ap (λ (x : _). changed (Block c.in-Block.inst) x c.index-links-action-in-Block.result)
    (link_read links a.left c.index-links-action.result (o.known false) inside c.index-links-action.is)
    ∙ ap (changed (Block c.in-Block.inst) (among o links a.left))
    (link_read links a.below c.index-links-action-in-Block.result (o.known false) inside_too c.index-links-action-in-Block.is)
    ∙ ap (λ (cell : Cell). changed cell (among o links a.left) (among o links a.below)) (sym c.in-Block.is)
