use Rattle.std.proofs.Common.{ap, arith}
use Rattle.csv.specs.Records.{fields_of}
use Rattle.text_report.specs.Report.{cell}
use Rattle.text_report.proofs.Adding.{adds_more, adds_none}
use Rattle.text_report.proofs.table.add_cells.Goals as goal

pub loop-number-init : goal.loop-number-init
loop-number-init c = adds_none _

pub loop-number-preserved : goal.loop-number-preserved
loop-number-preserved c =
    adds_more (cell c.args.form) (fields_of c.args.row.now) c.loop-number.number _ _ _ _ _ (omega (arith, c.loop-number-test.true, c.len-number-end.ensures)) (ap (cell c.args.form) c.field.ensures)
    c.loop-number.invariant c.add_cell.ensures
