use Rattle.std.proofs.Common.{length}
use Rattle.assume_always.proofs.always.+add_always.Given as goal

abbrev pub decreases-add_always : goal.decreases-add_always
decreases-add_always l = length l.texts.now
