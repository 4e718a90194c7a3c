use Rattle.std.proofs.Common.{length}
use Rattle.text_differences.specs.Forms.{names_in}
use Rattle.text_differences.proofs.GroupLaws.{Written}
use Rattle.text_differences.proofs.group_text.add_groups.Given as goal

abbrev pub invariant-loop-limit : goal.invariant-loop-limit
invariant-loop-limit g l =
    Written (g.W.Sink.log l.fn.writer) (g.W.Sink.log l.writer) l.fn.buffer l.buffer l.view.form l.view.side (names_in l.view) l.fn.groups l.groups l.listed l.limit l.written.rows l.written.differences

abbrev pub decreases-loop-limit : goal.decreases-loop-limit
decreases-loop-limit g l = length l.groups.rest
