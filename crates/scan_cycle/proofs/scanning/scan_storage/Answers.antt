use Rattle.std.proofs.Common.{◌∙◌, ap, sym, subst, map, length}
use Rattle.diagram_declarations.specs.Decls.{Declared, is_input}
use Rattle.scan_cycle.specs.Scan.{given}
use Rattle.scan_cycle.specs.Rung.{Held}
use Rattle.scan_cycle.specs.RungByRung.{ArePossible, shape}
use Rattle.scan_cycle.specs.Programs.{diagram_of}
use Rattle.scan_cycle.proofs.Possible.{scanned_possible, scanned_shapes}
use Rattle.scan_cycle.proofs.Scanned.{by_rungs}
use Rattle.scan_cycle.proofs.Sizes.{size-given, scan_lengths}
use Rattle.scan_cycle.proofs.scanning.scan_storage.Goals as goal

pub scan_rungs-requires-clause-sizes : goal.scan_rungs-requires-clause-sizes
scan_rungs-requires-clause-sizes c = record {
  values =
      c.requires.sizes.values
      ∙ sym (ap (λ (h : Held). length h.values) c.give.ensures ∙ size-given (map is_input c.decls.result.now.vars) c.args.inputs.now c.args.storage.now.values);
  ends = c.requires.sizes.ends ∙ sym (ap (λ (h : Held). length h.kept.blocks) c.give.ensures);
}

pub returns-clause-held : goal.returns-clause-held
returns-clause-held c =
    by_rungs c.args.program.now c.requires.program c.args.now c.args.inputs.now c.args.storage.now c.give.new.self _
    (c.give.ensures ∙ ap (λ (d : Declared). record c.args.storage.now { values = given (map is_input d.vars) c.args.inputs.now c.args.storage.now.values }) c.decls.ensures)
    c.scan_rungs.ensures.held

pub returns-clause-lengths : goal.returns-clause-lengths
returns-clause-lengths c =
    scan_lengths (diagram_of c.args.program.now) c.args.now (map is_input c.decls.result.now.vars) c.args.inputs.now c.args.storage.now c.give.new.self _ c.args.program.now.rungs
    c.give.ensures c.scan_rungs.ensures.held

pub returns-clause-shapes : goal.returns-clause-shapes
returns-clause-shapes c =
    ap (λ (x : Held). map shape x.kept.blocks) c.scan_rungs.ensures.held
    ∙ scanned_shapes (diagram_of c.args.program.now) c.args.now c.give.new.self c.args.program.now.rungs
    ∙ ap (λ (h : Held). map shape h.kept.blocks) c.give.ensures

pub returns-clause-possible : goal.returns-clause-possible
returns-clause-possible c = λ t.
    subst (λ (x : Held). ArePossible c.args.now x.kept.blocks) (sym c.scan_rungs.ensures.held)
    (scanned_possible (diagram_of c.args.program.now) c.requires.program c.args.now c.give.new.self
    (subst (λ (h : Held). ArePossible c.args.now h.kept.blocks) (sym c.give.ensures) t) c.args.program.now.rungs)
