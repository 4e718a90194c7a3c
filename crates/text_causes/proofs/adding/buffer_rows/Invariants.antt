use Rattle.std.proofs.Common.{◌++◌, length}
use Rattle.text_causes.specs.CauseText.{cause_record, limited}
use Rattle.text_causes.specs.Kept.{IsKept}
use Rattle.text_causes.specs.Limit.{limit_left}
use Rattle.text_causes.specs.Parts.{part}
use Rattle.text_causes.proofs.Limits.{Added, lines}
use Rattle.text_causes.proofs.PartLaws.{PartGoing}
use Rattle.text_causes.proofs.Taking.{Going}
use Rattle.text_causes.proofs.adding.buffer_rows.Given as goal

abbrev pub invariant-loop-extent : goal.invariant-loop-extent
invariant-loop-extent g l = record {
  added : Added (g.W.Sink.log l.fn.writer) (g.W.Sink.log l.writer) (l.fn.buffer ++ l.fn.row_buffer) (l.buffer ++ l.row_buffer) (lines (cause_record l.listed)) l.count l.extent.limit
      (limited l.extent.limit (part l.extent.last l.fn.causes.rest)) (limited (limit_left l.extent.limit l.count) (part l.extent.last l.causes.rest));
  going : Going l.fn.causes l.causes l.count;
  part : PartGoing l.extent.last l.fn.causes.rest l.causes.rest l.count;
  kept : IsKept l.listed l.kept;
}

abbrev pub decreases-loop-extent : goal.decreases-loop-extent
decreases-loop-extent g l = length l.causes.rest
