use Rattle.st_integers.proofs.Shorter.{count}
use Rattle.st_integers.proofs.keeping.+is_by_settings.Given as goal

abbrev pub decreases-is_by_settings : goal.decreases-is_by_settings
decreases-is_by_settings l = count l.list.now
