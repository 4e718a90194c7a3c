use Rattle.std.proofs.Common.{take}
use Rattle.std.specs.List.{flat_map}
use Rattle.csv.specs.Records.{fields_of}
use Rattle.text_report.specs.Adding.{Adds}
use Rattle.text_report.specs.Report.{name_cell}
use Rattle.text_report.proofs.table.add_names.Given as goal

abbrev pub invariant-loop-number : goal.invariant-loop-number
invariant-loop-number l = Adds l.fn.page l.page (flat_map (name_cell l.form) (take l.number (fields_of l.row)))
