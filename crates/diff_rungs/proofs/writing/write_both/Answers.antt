use Rattle.std.proofs.Common.{refl}
use Rattle.diff_rungs.proofs.Acting.{both_restored, both_spoiled}
use Rattle.diff_rungs.proofs.writing.write_both.Goals as goal

pub returns-then-same-clause-same : goal.returns-then-same-clause-same
returns-then-same-clause-same c =
    both_restored c.args.versions.matching.now c.args.versions.old.now c.args.versions.new.now c.args.start.now c.args.marks.now c.spoil_cell.new.marks c.spoil_cell-2.new.marks
    c.args.old c.args.new c.spoil_cell.ensures c.spoil_cell-2.ensures c.restore_cells.new.marks (c.if-same.ensures refl) c.restore_cells.ensures

pub returns-else-same-clause-same : goal.returns-else-same-clause-same
returns-else-same-clause-same c =
    both_spoiled c.args.versions.matching.now c.args.versions.old.now c.args.versions.new.now c.args.start.now c.args.marks.now c.spoil_cell.new.marks c.spoil_cell-2.new.marks
    c.args.old c.args.new c.spoil_cell.ensures c.spoil_cell-2.ensures
