use Rattle.std.proofs.Common.{ap, drop}
use Rattle.csv.specs.Records.{fields_of}
use Rattle.cli_names.proofs.Passing.{if_two, none_read}
use Rattle.cli_names.proofs.state.pass_two.Goals as goal

pub returns-then-not-branch-clause-passed : goal.returns-then-not-branch-clause-passed
returns-then-not-branch-clause-passed c = λ rows left.
    ap (drop 2) (none_read rows c.in_ok-next.field-0 (fields_of c.next.new.row) c.next.new.records c.if-not-branch.true (c.in_ok-next.ensures.takes rows left))

pub returns-clause-passed : goal.returns-clause-passed
returns-clause-passed c = λ rows left.
    if_two rows c.in_ok-next.field-0 (fields_of c.next.new.row) c.next.new.records c.next-2.result (fields_of c.next-2.new.row) _ c.if-not-branch.false (c.in_ok-next.ensures.takes rows left)
    (λ rest l. c.next-2.ensures.takes rest l)
