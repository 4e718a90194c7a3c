use Rattle.std.proofs.Common.{◌-◌, ◌<◌, ◌++◌, ◌^◌, length}
use Rattle.text_causes.specs.Kept.{IsKept}
use Rattle.text_causes.proofs.TellLaws.{Stands}
use Rattle.text_causes.proofs.progress.tell_rows.Given as goal

abbrev pub invariant-loop-pace : goal.invariant-loop-pace
invariant-loop-pace g l = record {
  stands : Stands l.lines l.extent.last l.extent.limit l.fn.causes l.causes l.rows l.reached (g.O.Sink.log l.fn.out) (g.O.Sink.log l.out) (g.E.Sink.log l.fn.err) (g.E.Sink.log l.err) (l.buffer ++ l.row_buffer);
  kept : IsKept (length l.fn.causes.listed) l.kept;
  small : l.reached < 2 ^ 64 - 1;
}

abbrev pub decreases-loop-pace : goal.decreases-loop-pace
decreases-loop-pace g l = l.end - l.reached
