use Rattle.std.proofs.Common.{length}
use Rattle.plc_elements.proofs.unknown.+names_instance.Given as goal

abbrev pub decreases-names_instance : goal.decreases-names_instance
decreases-names_instance l = length l.instances.now
