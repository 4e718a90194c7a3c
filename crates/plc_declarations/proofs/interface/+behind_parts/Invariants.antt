use Rattle.std.proofs.Common.{length}
use Rattle.plc_declarations.proofs.interface.+behind_parts.Given as goal

abbrev pub decreases-behind_parts : goal.decreases-behind_parts
decreases-behind_parts l = length l.parts.now
