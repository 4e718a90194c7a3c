use Rattle.std.proofs.Common.{◌∙◌, ap, sym, map, length}
use Rattle.std.proofs.lemmas.List.{with_items_is}
use Rattle.diagram_declarations.specs.Decls.{Declared, is_input}
use Rattle.scan_cycle.specs.Scan.{given}
use Rattle.scan_partial.specs.Sizes.{Spare}
use Rattle.scan_partial.proofs.Rungs.{by_rungs, given_long, long_then, room_for, sizes_then, spare_is}
use Rattle.scan_partial.proofs.scanning.scan_known.Goals as goal

pub scan_rungs-requires-clause-start : goal.scan_rungs-requires-clause-start
scan_rungs-requires-clause-start g c =
    room_for c.args.program.now c.args.known.now _ c.room.inside.start c.args.room.now (ap (λ (s : Spare). s.variables) c.room.view_is) (ap (λ (s : Spare). s.instances) c.room.view_is)
    c.requires.room c.requires.known (given_long (map is_input c.decls.result.now.vars) c.args.inputs.now c.args.known.now _ c.give.ensures)

pub returns-clause-known : goal.returns-clause-known
returns-clause-known g c =
    by_rungs g.S.Operations.algebra g.B.Keep.keeping c.args.program.now c.args.now c.args.inputs.now c.args.known.now c.give.new.self _
    (c.give.ensures ∙ ap (λ (d : Declared). record c.args.known.now { values = given (map is_input d.vars) c.args.inputs.now c.args.known.now.values }) c.decls.ensures)
    c.scan_rungs.ensures.known

pub returns-clause-sizes : goal.returns-clause-sizes
returns-clause-sizes g c =
    sizes_then (long_then c.scan_rungs.ensures.lengths (given_long (map is_input c.decls.result.now.vars) c.args.inputs.now c.args.known.now _ c.give.ensures)) c.requires.known

pub returns-clause-room : goal.returns-clause-room
returns-clause-room g c =
    let sizes = sizes_then (long_then c.scan_rungs.ensures.lengths (given_long (map is_input c.decls.result.now.vars) c.args.inputs.now c.args.known.now _ c.give.ensures)) c.requires.known in
    let start = c.scan_rungs.ensures.start in
    spare_is c.args.room.now _ _ _
    (start.values ∙ sizes.values ∙ sym c.requires.room.variables)
    (start.ends ∙ sizes.blocks ∙ sym c.requires.room.instances)
    (ap length (with_items_is c.room.inside.taken c.scan_rungs.new.taken (c.scan_rungs.auto.taken ∙ c.deref_mut-2.ensures.len))
    ∙ c.scan_rungs.auto.taken ∙ ap length c.deref_mut-2.ensures.value ∙ ap (λ (s : Spare). s.rungs) c.room.view_is)
