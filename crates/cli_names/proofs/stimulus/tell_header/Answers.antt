use Rattle.std.proofs.Common.{Ok, Err, arith, refl, true}
use Rattle.csv.specs.Records.{fields_of}
use Rattle.cli_names.proofs.Telling.{is_failed, is_told, name_passed, name_told}
use Rattle.cli_names.proofs.stimulus.tell_header.Goals as goal

pub returns-in-Ok-true : goal.returns-in-Ok-true
returns-in-Ok-true g c =
    c.loop-number.invariant.1 _ (Ok true)
    (name_told c.args.decls.now (fields_of c.args.header.now) c.loop-number.number c.field.result.now (omega (arith, c.loop-number-test.true, c.len-number-end.ensures))
    c.field.ensures _ _ (Ok true) (is_told true refl _ refl) (rw c.in-Ok-true.field-0-test at c.in-Ok-true.ensures))

pub returns-in-Err : goal.returns-in-Err
returns-in-Err g c =
    c.loop-number.invariant.1 _ _
    (name_told c.args.decls.now (fields_of c.args.header.now) c.loop-number.number c.field.result.now (omega (arith, c.loop-number-test.true, c.len-number-end.ensures))
    c.field.ensures _ _ (Err c.in-Err.fault) (is_failed c.in-Err.fault _ refl) c.in-Err.ensures)

pub loop-number-preserved : goal.loop-number-preserved
loop-number-preserved g c =
    let more = name_passed c.args.decls.now (fields_of c.args.header.now) c.loop-number.number c.field.result.now
    (omega (arith, c.loop-number-test.true, c.len-number-end.ensures)) c.field.ensures _ _ c.in-Ok-false.field-0 c.in-Ok-false.field-0-test c.in-Ok-false.ensures in
    (omega arith, λ new r t. c.loop-number.invariant.1 new r (more new r t))
