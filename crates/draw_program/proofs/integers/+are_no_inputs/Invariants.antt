use Rattle.std.proofs.Common.{length}
use Rattle.draw_program.proofs.integers.+are_no_inputs.Given as goal

abbrev pub decreases-are_no_inputs : goal.decreases-are_no_inputs
decreases-are_no_inputs l = length l.values.now
