use Rattle.std.proofs.Common.{length}
use Rattle.plc_declarations.proofs.declared.+behind_all.Given as goal

abbrev pub decreases-behind_all : goal.decreases-behind_all
decreases-behind_all l = length l.places.now
