use Rattle.std.proofs.Common.{◌≡◌, ◌∙◌, [], ap, drop}
use Rattle.diagram_declarations.specs.Decls.{names_of}
use Rattle.io_text.specs.Text.{records_of}
use Rattle.cli_names.specs.Advice.{records_advice}
use Rattle.cli_names.proofs.Passing.{left_two, none_left}
use Rattle.cli_names.proofs.Telling.{no_records, nothing}
use Rattle.cli_names.proofs.state.tell_text.Goals as goal

pub returns-in-Ok-true : goal.returns-in-Ok-true
returns-in-Ok-true g c =
    let rows = records_of c.args.text.now in
    c.tell_records.ensures (drop 2 rows) (left_two rows c.in-Ok-true.field-0 c.pass_two.new.records c.in-Ok-true.field-0-test (c.in-Ok-true.ensures.passed rows c.read_from-records.ensures.all))

pub returns-in-Ok-false : goal.returns-in-Ok-false
returns-in-Ok-false g c =
    let rows = records_of c.args.text.now in
    let names = names_of c.args.decls.now in
    let none : drop 2 rows ≡ [] = none_left rows c.in-Ok-false.field-0 c.pass_two.new.records c.in-Ok-false.field-0-test (c.in-Ok-false.ensures.passed rows c.read_from-records.ensures.all) in
    nothing c.args.decls.now _ _ (ap (records_advice 3 names) none ∙ no_records 3 names)
