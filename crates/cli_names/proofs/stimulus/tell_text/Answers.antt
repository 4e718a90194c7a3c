use Rattle.std.proofs.Common.{◌≡◌, [], List, ap, drop, get_or}
use Rattle.csv.specs.Records.{fields_of}
use Rattle.io_text.specs.Left.{Fields}
use Rattle.io_text.specs.Text.{records_of}
use Rattle.cli_names.specs.Advice.{names_advice}
use Rattle.cli_names.proofs.Passing.{none_read, one_read}
use Rattle.cli_names.proofs.Telling.{nothing, on_header}
use Rattle.cli_names.proofs.stimulus.tell_text.Goals as goal

pub returns-in-Ok-true : goal.returns-in-Ok-true
returns-in-Ok-true g c =
    let rows = records_of c.args.text.now in
    let (rest, is, after) = one_read rows c.in-Ok-true.field-0 (fields_of c.next.new.row) c.next.new.records c.in-Ok-true.field-0-test (c.in-Ok-true.ensures.takes rows c.read_from-records.ensures.all) in
    on_header c.args.decls.now rows (fields_of c.next.new.row) rest _ _ _ is c.tell_header.ensures

pub returns-in-Ok-false : goal.returns-in-Ok-false
returns-in-Ok-false g c =
    let rows = records_of c.args.text.now in
    let none : rows ≡ [] = none_read rows c.in-Ok-false.field-0 (fields_of c.next.new.row) c.next.new.records c.in-Ok-false.field-0-test (c.in-Ok-false.ensures.takes rows c.read_from-records.ensures.all) in
    nothing c.args.decls.now _ _ (ap (λ (rs : List Fields). names_advice c.args.decls.now (drop 1 (get_or rs 0 []))) none)
