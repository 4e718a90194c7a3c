use Rattle.std.proofs.Common.{◌-◌, ◌<◌, ◌^◌}
use Rattle.text_differences.proofs.TellLaws.{Stands}
use Rattle.text_differences.proofs.progress.tell_rows.Given as goal

abbrev pub invariant-loop-limit : goal.invariant-loop-limit
invariant-loop-limit g l = record {
  stands : Stands l.upto l.limit l.fn.differences l.differences l.rows l.reached (g.O.Sink.log l.fn.out) (g.O.Sink.log l.out) (g.E.Sink.log l.fn.err) (g.E.Sink.log l.err) l.buffer;
  small : l.reached < 2 ^ 64 - 1;
}

abbrev pub decreases-loop-limit : goal.decreases-loop-limit
decreases-loop-limit g l = l.end - l.reached
