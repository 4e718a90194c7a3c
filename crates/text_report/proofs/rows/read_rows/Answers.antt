use Rattle.std.proofs.Common.{subst, sym, List}
use Rattle.csv.specs.Records.{fields_of}
use Rattle.csv.specs.declared.record.ByteRecord.{ByteRecord}
use Rattle.io_text.specs.Text.{records_of}
use Rattle.text_report.proofs.Reading.{IsSplit, ended, one_more}
use Rattle.text_report.proofs.rows.read_rows.Goals as goal

pub returns-then-not-branch : goal.returns-then-not-branch
returns-then-not-branch c =
    ended (records_of c.args.text.now) c.loop.rows.items c.loop.records c.next.new.records c.in_ok-next.field-0 (fields_of c.next.new.row) c.loop.invariant.1
    c.if-not-branch.true c.in_ok-next.ensures.takes

pub loop-preserved : goal.loop-preserved
loop-preserved c = (
  c.in_ok-next.ensures.plain,
  subst (λ (kept : List ByteRecord). IsSplit (records_of c.args.text.now) kept c.next.new.records) (sym c.in_ok-push.ensures.items)
      (one_more (records_of c.args.text.now) c.loop.rows.items c.next.new.row c.loop.records c.next.new.records c.in_ok-next.field-0 c.loop.invariant.1
      c.if-not-branch.false c.in_ok-next.ensures.takes),
)
