use Rattle.std.proofs.Common.{length}
use Rattle.plc_elements.proofs.jumps.+is_only_label.Given as goal

abbrev pub decreases-is_only_label : goal.decreases-is_only_label
decreases-is_only_label l = length l.parts.now
