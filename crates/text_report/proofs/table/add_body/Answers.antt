use Rattle.std.proofs.Common.{ap, arith, subst, sym, take, take_all, List}
use Rattle.std.specs.List.{flat_map}
use Rattle.std.proofs.lemmas.List.Folds.{flat_map-map}
use Rattle.csv.specs.Records.{fields_of}
use Rattle.csv.specs.declared.record.ByteRecord.{ByteRecord}
use Rattle.text_report.specs.Adding.{Adds}
use Rattle.text_report.specs.Report.{record_row}
use Rattle.text_report.proofs.Adding.{adds_more, adds_none, adds_same}
use Rattle.text_report.proofs.table.add_body.Goals as goal

pub loop-row-init : goal.loop-row-init
loop-row-init c = adds_none _

pub loop-row-preserved : goal.loop-row-preserved
loop-row-preserved c =
    let row_of = λ (row : ByteRecord). record_row c.args.form c.args.ticked (fields_of row) in
    adds_more row_of c.args.rows.now c.loop-row.row-index c.row-item.result _ _ _ _ c.loop-row-test.true (ap row_of c.row-item.is) c.loop-row.invariant c.add_row.ensures

pub returns : goal.returns
returns c =
    let rows = c.args.rows.now in
    adds_same _ _ _ _ (sym (flat_map-map (record_row c.args.form c.args.ticked) fields_of rows))
    (subst (λ (xs : List ByteRecord). Adds c.args.page.now c.loop-row.page (flat_map (λ row. record_row c.args.form c.args.ticked (fields_of row)) xs))
    (take_all c.loop-row.row-index rows c.loop-row-test.false) c.loop-row.invariant)
