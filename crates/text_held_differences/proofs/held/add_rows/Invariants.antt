use Rattle.std.proofs.Common.{length}
use Rattle.text_held_differences.proofs.HeldLaws.{WrittenHeld}
use Rattle.text_held_differences.proofs.held.add_rows.Given as goal

abbrev pub invariant-loop-limit : goal.invariant-loop-limit
invariant-loop-limit g l =
    WrittenHeld (g.W.Sink.log l.fn.writer) (g.W.Sink.log l.writer) l.fn.buffer l.buffer l.listed l.limit l.fn.differences l.differences l.count

abbrev pub decreases-loop-limit : goal.decreases-loop-limit
decreases-loop-limit g l = length l.differences.rest
