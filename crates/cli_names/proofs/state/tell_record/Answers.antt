use Rattle.std.proofs.Common.{sym}
use Rattle.csv.specs.Records.{fields_of}
use Rattle.cli_names.proofs.Telling.{missing, other_name, same_name}
use Rattle.cli_names.proofs.state.tell_record.Goals as goal

pub returns-in_default : goal.returns-in_default
returns-in_default g c = λ d. missing d c.args.number c.args.name.now (fields_of c.args.row.now) (g.W.Sink.log c.args.writer.now) c.in_default.ensures.value

pub returns-then-eq : goal.returns-then-eq
returns-then-eq g c = λ d.
    same_name d c.args.number c.args.name.now c.in-Some.found.now (fields_of c.args.row.now) (g.W.Sink.log c.args.writer.now) c.in-Some.ensures.value (sym c.if-eq.ensures)

pub returns : goal.returns
returns g c = λ d.
    other_name d c.args.number c.args.name.now c.in-Some.found.now (fields_of c.args.row.now) _ _ c.write_other.result c.told.result c.in-Some.ensures.value
    (sym c.if-eq.ensures) c.told.ensures c.write_other.ensures
