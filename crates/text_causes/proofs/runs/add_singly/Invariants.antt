use Rattle.std.proofs.Common.{◌++◌}
use Rattle.search_tree.specs.Marked.{marked}
use Rattle.text_causes.specs.Rows.{rows}
use Rattle.text_causes.proofs.RunLaws.{Sent}
use Rattle.text_causes.proofs.runs.add_singly.Given as goal

abbrev pub invariant-loop-left : goal.invariant-loop-left
invariant-loop-left g l = Sent (g.W.Sink.log l.fn.writer) (g.W.Sink.log l.writer) (l.fn.buffer ++ l.fn.row_buffer) (l.buffer ++ l.row_buffer)
    (rows l.listed (marked l.run.number l.run.mask)) (rows l.listed (marked l.run.number l.left))

abbrev pub decreases-loop-left : goal.decreases-loop-left
decreases-loop-left g l = l.left
