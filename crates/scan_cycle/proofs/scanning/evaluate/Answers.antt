use Rattle.std.proofs.Common.{◌∙◌, ap, Bool, ℕ}
use Rattle.diagram_program.specs.Gates.{left_of}
use Rattle.scan_signals.specs.Truth.{plain}
use Rattle.scan_cycle.specs.Cells.{Frame}
use Rattle.scan_cycle.specs.Rung.{link, link_at}
use Rattle.scan_cycle.specs.Programs.{diagram_of}
use Rattle.scan_cycle.specs.Gating.{among}
use Rattle.scan_cycle.proofs.Acting.{places, by_actions}
use Rattle.scan_cycle.proofs.Exits.{after_same}
use Rattle.scan_cycle.proofs.Sizes.{rung_sizes}
use Rattle.scan_cycle.proofs.scanning.evaluate.Goals as goal

pub changes-requires-clause-places : goal.changes-requires-clause-places
changes-requires-clause-places c = places c.args.scene.program.now c.args.scene.rung

pub returns-clause-held : goal.returns-clause-held
returns-clause-held c =
    by_actions c.args.scene.program.now c.args.scene.now c.args.scene.rung c.args.storage.now _ _ c.find_links.new.links c.copy_start.ensures c.find_links.ensures.links c.changes.ensures

pub returns-clause-next : goal.returns-clause-next
returns-clause-next c =
    let p = c.args.scene.program.now in
    let d = diagram_of p in
    let j = c.args.scene.rung in
    let h = c.args.storage.now in
    let now = c.args.scene.now in
    c.rung_after.ensures
    ∙ after_same j (d.jump j) (λ (place : ℕ). among plain c.find_links.new.links (left_of p j place)) (link_at d now j h) (λ place target e.
    c.find_links.ensures.links.left place (c.requires.program.jumps j place target e).0 ∙ ap (λ (f : Frame Bool). link plain d h.kept now j f place) c.copy_start.ensures)

pub returns-clause-sizes : goal.returns-clause-sizes
returns-clause-sizes c =
    rung_sizes (diagram_of c.args.scene.program.now) c.args.scene.now c.args.scene.rung c.args.storage.now _ _ c.copy_start.ensures
    (by_actions c.args.scene.program.now c.args.scene.now c.args.scene.rung c.args.storage.now _ _ c.find_links.new.links c.copy_start.ensures c.find_links.ensures.links c.changes.ensures)
