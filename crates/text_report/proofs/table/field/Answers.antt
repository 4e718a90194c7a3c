use Rattle.std.proofs.Common.{sym}
use Rattle.csv.specs.Records.{fields_of}
use Rattle.csv.proofs.RecordFacts.{field-get}
use Rattle.text_report.proofs.Reading.{field_none}
use Rattle.text_report.proofs.table.field.Goals as goal

pub returns-in-Some : goal.returns-in-Some
returns-in-Some c = sym (field-get (fields_of c.args.row.now) c.args.number c.in-Some.field.now (sym c.in-Some.ensures.value))

pub returns-in-None : goal.returns-in-None
returns-in-None c = sym (field_none (fields_of c.args.row.now) c.args.number (sym c.in-None.ensures.value))
