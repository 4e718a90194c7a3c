use Rattle.std.proofs.Common.{length}
use Rattle.assume_always.proofs.writing.+put_always.Given as goal

abbrev pub decreases-put_always : goal.decreases-put_always
decreases-put_always g l = length l.numbers.now
