use Rattle.std.proofs.Common.{length}
use Rattle.text_lists.specs.ClassText.{held_group_record}
use Rattle.text_lists.proofs.Counting.{Written}
use Rattle.text_lists.proofs.held_group_text.add_rows.Given as goal

abbrev pub invariant-loop-limit : goal.invariant-loop-limit
invariant-loop-limit g l =
    Written (g.W.Sink.log l.fn.writer) (g.W.Sink.log l.writer) l.fn.buffer l.buffer (held_group_record l.listed) l.listed l.limit l.fn.groups.rest l.groups.rest l.written.rows l.written.causes

abbrev pub decreases-loop-limit : goal.decreases-loop-limit
decreases-loop-limit g l = length l.groups.rest
