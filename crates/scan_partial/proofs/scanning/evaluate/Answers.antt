use Rattle.std.proofs.Common.{◌∙◌, ℕ}
use Rattle.diagram_program.specs.Gates.{left_of}
use Rattle.scan_cycle.specs.Programs.{diagram_of}
use Rattle.scan_cycle.specs.Gating.{among}
use Rattle.scan_cycle.proofs.Acting.{places}
use Rattle.scan_symbolic.specs.KnownScan.{link_in}
use Rattle.scan_partial.proofs.Acting.{by_actions}
use Rattle.scan_partial.proofs.Rungs.{rung_lengths, rung_room, taken_same}
use Rattle.scan_partial.proofs.scanning.evaluate.Goals as goal

pub changes-requires-clause-places : goal.changes-requires-clause-places
changes-requires-clause-places g c = places c.args.scene.program.now c.args.scene.rung

pub returns-clause-known : goal.returns-clause-known
returns-clause-known g c =
    by_actions g.S.Operations.algebra g.B.Keep.keeping c.args.scene.program.now c.args.scene.now c.args.scene.rung c.args.guard c.args.known.now _ _ c.find_links.new.links
    c.begin.ensures c.find_links.ensures.links c.changes.ensures

pub returns-clause-taken : goal.returns-clause-taken
returns-clause-taken g c =
    let o = g.S.Operations.algebra in
    let p = c.args.scene.program.now in
    let j = c.args.scene.rung in
    c.leaves-taken.ensures
    ∙ taken_same o ((diagram_of p).jump j) c.args.guard (λ (place : ℕ). among o c.find_links.new.links (left_of p j place))
    (link_in o g.B.Keep.keeping (diagram_of p) c.args.scene.now j c.args.known.now)
    (λ place target e. c.find_links.ensures.links.left place (c.requires.program.jumps j place target e).0)

pub returns-clause-start : goal.returns-clause-start
returns-clause-start g c =
    rung_room g.S.Operations.algebra g.B.Keep.keeping (diagram_of c.args.scene.program.now) c.args.scene.now c.args.scene.rung c.args.guard c.args.known.now _ _ c.begin.ensures
    (by_actions g.S.Operations.algebra g.B.Keep.keeping c.args.scene.program.now c.args.scene.now c.args.scene.rung c.args.guard c.args.known.now _ _ c.find_links.new.links
    c.begin.ensures c.find_links.ensures.links c.changes.ensures)

pub returns-clause-lengths : goal.returns-clause-lengths
returns-clause-lengths g c =
    rung_lengths g.S.Operations.algebra g.B.Keep.keeping (diagram_of c.args.scene.program.now) c.args.scene.now c.args.scene.rung c.args.guard c.args.known.now _
    (by_actions g.S.Operations.algebra g.B.Keep.keeping c.args.scene.program.now c.args.scene.now c.args.scene.rung c.args.guard c.args.known.now _ _ c.find_links.new.links
    c.begin.ensures c.find_links.ensures.links c.changes.ensures)
