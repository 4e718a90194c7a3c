use Rattle.std.proofs.Common.{◌≤◌, ◌^◌, ◌-◌, length}
use Rattle.std.specs.Prelude.{IfSome}
use Rattle.text_runs.specs.AddedRows.{AddedRows}
use Rattle.text_runs.proofs.cause_rows.add_rows.Given as goal

abbrev pub invariant-loop-limit : goal.invariant-loop-limit
invariant-loop-limit g l = record {
  added : AddedRows (g.W.Sink.log l.fn.writer) (g.W.Sink.log l.writer) l.fn.buffer l.buffer l.fn.causes l.causes l.count;
  rows : l.count.rows ≤ l.causes.from;
  unsettled : l.count.unsettled ≤ l.count.rows;
  few : IfSome l.limit (λ n. l.count.rows ≤ n);
  within : l.causes.from ≤ 2 ^ length l.fn.causes.listed;
}

abbrev pub decreases-loop-limit : goal.decreases-loop-limit
decreases-loop-limit g l = 2 ^ length l.fn.causes.listed - l.causes.from
