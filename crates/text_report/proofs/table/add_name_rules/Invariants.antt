use Rattle.std.proofs.Common.{take}
use Rattle.std.specs.List.{flat_map}
use Rattle.csv.specs.Records.{fields_of}
use Rattle.text_report.specs.Adding.{Adds}
use Rattle.text_report.specs.Marks.{mark_in}
use Rattle.text_report.specs.declared.marks.Mark.TheVariants.{Rule}
use Rattle.text_report.proofs.table.add_name_rules.Given as goal

abbrev pub invariant-loop : goal.invariant-loop
invariant-loop l = Adds l.fn.page l.page (flat_map (λ name. mark_in l.form Rule) (take l.counter (fields_of l.row)))
