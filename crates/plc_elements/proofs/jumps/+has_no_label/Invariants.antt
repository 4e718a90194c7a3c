use Rattle.std.proofs.Common.{length}
use Rattle.plc_elements.proofs.jumps.+has_no_label.Given as goal

abbrev pub decreases-has_no_label : goal.decreases-has_no_label
decreases-has_no_label l = length l.parts.now
