use Rattle.std.proofs.Common.{take}
use Rattle.std.specs.List.{flat_map}
use Rattle.csv.specs.Records.{fields_of}
use Rattle.text_report.specs.Adding.{Adds}
use Rattle.text_report.specs.Report.{record_row}
use Rattle.text_report.proofs.table.add_body.Given as goal

abbrev pub invariant-loop-row : goal.invariant-loop-row
invariant-loop-row l = Adds l.fn.page l.page (flat_map (λ row. record_row l.form l.ticked (fields_of row)) (take l.row-index l.rows))
