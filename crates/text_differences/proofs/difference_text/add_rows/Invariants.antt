use Rattle.std.proofs.Common.{length}
use Rattle.text_differences.proofs.RowLaws.{Written}
use Rattle.text_differences.proofs.difference_text.add_rows.Given as goal

abbrev pub invariant-loop-upto : goal.invariant-loop-upto
invariant-loop-upto g l =
    Written (g.W.Sink.log l.fn.writer) (g.W.Sink.log l.writer) l.fn.buffer l.buffer l.listed l.upto l.limit l.fn.differences l.differences l.count

abbrev pub decreases-loop-upto : goal.decreases-loop-upto
decreases-loop-upto g l = length l.differences.rest
