use Rattle.std.proofs.Common.{◌≡◌, drop, length}
use Rattle.text_causes.specs.CauseText.{limited}
use Rattle.text_lists.specs.HeldText.{held_record}
use Rattle.text_causes.specs.Limit.{limit_left}
use Rattle.text_causes.proofs.Limits.{Added, lines}
use Rattle.text_lists.proofs.held_text.add_rows.Given as goal

abbrev pub invariant-loop-limit : goal.invariant-loop-limit
invariant-loop-limit g l = record {
  added : Added (g.W.Sink.log l.fn.writer) (g.W.Sink.log l.writer) l.fn.buffer l.buffer (lines (held_record l.listed)) l.count l.limit
      (limited l.limit l.fn.causes.rest) (limited (limit_left l.limit l.count) l.causes.rest);
  left : l.causes.rest ≡ drop l.count l.fn.causes.rest;
}

abbrev pub decreases-loop-limit : goal.decreases-loop-limit
decreases-loop-limit g l = length l.causes.rest
