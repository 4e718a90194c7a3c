use Rattle.std.proofs.Common.{◌≡◌, ◌∙◌, ◌+◌, [], Ok, Err, true, false, ap, arith, drop, refl}
use Rattle.csv.specs.Records.{fields_of}
use Rattle.diagram_declarations.specs.Decls.{names_of}
use Rattle.cli_names.specs.declared.fault.AdviceFault.TheVariants as advice_fault
use Rattle.cli_names.specs.Advice.{records_advice}
use Rattle.cli_names.proofs.Passing.{none_read, one_read}
use Rattle.cli_names.proofs.Telling.{goes_past, no_memory, no_records, nothing, record_passed, record_told, is_told, is_failed}
use Rattle.cli_names.proofs.state.tell_records.Goals as goal

pub returns-in-Ok-false : goal.returns-in-Ok-false
returns-in-Ok-false g c = λ rows left.
    let d = c.args.decls.now in
    let n = c.loop-number.number in
    let (xs, now, goes) = c.loop-number.invariant.1 rows left in
    let none : xs ≡ [] = none_read xs c.in-Ok-false.field-0 (fields_of c.next.new.row) c.next.new.records c.in-Ok-false.field-0-test (c.in-Ok-false.ensures.takes xs now) in
    goes _ (Ok false) (nothing d _ _ (ap (records_advice (n + 3) (drop n (names_of d))) none ∙ no_records (n + 3) (drop n (names_of d))))

pub returns-in-Err : goal.returns-in-Err
returns-in-Err g c = λ rows left.
    let (xs, now, goes) = c.loop-number.invariant.1 rows left in goes _ (Err advice_fault.Memory) (no_memory c.args.decls.now _ _)

pub overflow_add-number : goal.overflow_add-number
overflow_add-number g c = omega (arith, c.loop-number-test.true, c.count_names-number-end.ensures.most)

pub returns-in-Err-tell_record : goal.returns-in-Err-tell_record
returns-in-Err-tell_record g c = λ rows left.
    let d = c.args.decls.now in
    let n = c.loop-number.number in
    let (xs, now, goes) = c.loop-number.invariant.1 rows left in
    let (rest, is, after) = one_read xs c.in-Ok-true.field-0 (fields_of c.next.new.row) c.next.new.records c.in-Ok-true.field-0-test (c.in-Ok-true.ensures.takes xs now) in
    goes _ _
    (record_told d (names_of d) n c.name_at.result.now xs (fields_of c.next.new.row) rest (omega (arith, c.loop-number-test.true, c.count_names-number-end.ensures.value))
    c.name_at.ensures is _ _ (Err c.in-Err-tell_record.fault) (is_failed c.in-Err-tell_record.fault _ refl) (c.in-Err-tell_record.ensures d))

pub returns-in-Ok-true-tell_record : goal.returns-in-Ok-true-tell_record
returns-in-Ok-true-tell_record g c = λ rows left.
    let d = c.args.decls.now in
    let n = c.loop-number.number in
    let (xs, now, goes) = c.loop-number.invariant.1 rows left in
    let (rest, is, after) = one_read xs c.in-Ok-true.field-0 (fields_of c.next.new.row) c.next.new.records c.in-Ok-true.field-0-test (c.in-Ok-true.ensures.takes xs now) in
    goes _ (Ok true)
    (record_told d (names_of d) n c.name_at.result.now xs (fields_of c.next.new.row) rest (omega (arith, c.loop-number-test.true, c.count_names-number-end.ensures.value))
    c.name_at.ensures is _ _ (Ok true) (is_told true refl _ refl)
    (rw c.in-Ok-true-tell_record.field-0-test at (c.in-Ok-true-tell_record.ensures d)))

pub loop-number-preserved : goal.loop-number-preserved
loop-number-preserved g c = (
  c.in-Ok-true.ensures.plain,
  λ rows left.
      let d = c.args.decls.now in
      let n = c.loop-number.number in
      let (xs, now, goes) = c.loop-number.invariant.1 rows left in
      let (rest, is, after) = one_read xs c.in-Ok-true.field-0 (fields_of c.next.new.row) c.next.new.records c.in-Ok-true.field-0-test (c.in-Ok-true.ensures.takes xs now) in
      let more = record_passed d (names_of d) n c.name_at.result.now xs (fields_of c.next.new.row) rest (omega (arith, c.loop-number-test.true, c.count_names-number-end.ensures.value))
      c.name_at.ensures is _ _ c.in-Ok-false-tell_record.field-0 c.in-Ok-false-tell_record.field-0-test (c.in-Ok-false-tell_record.ensures d) in
      (rest, after, λ new r t. goes new r (more new r t)),
)

pub returns : goal.returns
returns g c = λ rows left.
    let d = c.args.decls.now in
    let n = c.loop-number.number in
    let (xs, now, goes) = c.loop-number.invariant.1 rows left in
    goes _ (Ok false) (nothing d _ _ (goes_past (n + 3) n (names_of d) xs (omega (arith, c.loop-number-test.false, c.count_names-number-end.ensures.value))))
