use Rattle.std.proofs.Common.{length}
use Rattle.st_integers.proofs.setting.+setting_from.Given as goal

abbrev pub decreases-setting_from : goal.decreases-setting_from
decreases-setting_from l = length l.values.now
