use Rattle.st_words.proofs.Walks.{unambiguous}
use Rattle.st_words.proofs.laws.unambiguous.Goals as goal

pub returns : goal.returns
returns c = unambiguous
