use Rattle.assume_comments.proofs.Walks.{unambiguous}
use Rattle.assume_comments.proofs.laws.unambiguous.Goals as goal

pub returns : goal.returns
returns c = unambiguous
