use Rattle.std.proofs.Common.{◌∙◌, ap, sym, subst, map}
use Rattle.scan_cycle.specs.Rung.{Held}
use Rattle.scan_cycle.specs.RungByRung.{ArePossible, shape}
use Rattle.scan_cycle.specs.Programs.{diagram_of}
use Rattle.scan_cycle.proofs.Possible.{scanned_possible, scanned_shapes}
use Rattle.scan_cycle.proofs.Sizes.{scan_lengths}
use Rattle.scan_incremental.proofs.Giving.{by_rungs}
use Rattle.scan_incremental.proofs.scanning.scan_storage.Goals as goal

pub returns-clause-held : goal.returns-clause-held
returns-clause-held c =
    by_rungs c.args.program.now c.requires.program c.args.now c.args.inputs.now c.args.storage.now c.give.new.storage _ c.give.ensures.given c.scan_rungs.ensures.held

pub returns-clause-lengths : goal.returns-clause-lengths
returns-clause-lengths c =
    scan_lengths (diagram_of c.args.program.now) c.args.now (diagram_of c.args.program.now).inputs c.args.inputs.now c.args.storage.now c.give.new.storage _ c.args.program.now.rungs
    c.give.ensures.given c.scan_rungs.ensures.held

pub returns-clause-shapes : goal.returns-clause-shapes
returns-clause-shapes c =
    ap (λ (x : Held). map shape x.kept.blocks) c.scan_rungs.ensures.held
    ∙ scanned_shapes (diagram_of c.args.program.now) c.args.now c.give.new.storage c.args.program.now.rungs
    ∙ ap (λ (h : Held). map shape h.kept.blocks) c.give.ensures.given

pub returns-clause-possible : goal.returns-clause-possible
returns-clause-possible c = λ t.
    subst (λ (x : Held). ArePossible c.args.now x.kept.blocks) (sym c.scan_rungs.ensures.held)
    (scanned_possible (diagram_of c.args.program.now) c.requires.program c.args.now c.give.new.storage
    (subst (λ (h : Held). ArePossible c.args.now h.kept.blocks) (sym c.give.ensures.given) t) c.args.program.now.rungs)
