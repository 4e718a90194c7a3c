use Rattle.std.proofs.Common.{length}
use Rattle.st_integers.proofs.keeping.+behind_setting.Given as goal

abbrev pub decreases-behind_setting : goal.decreases-behind_setting
decreases-behind_setting l = length l.values.now
