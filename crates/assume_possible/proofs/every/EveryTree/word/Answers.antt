use Rattle.assume_possible.proofs.Filtered.{all_ones}
use Rattle.assume_possible.proofs.every.EveryTree.word.Goals as goal

pub returns-clause-bits : goal.returns-clause-bits
returns-clause-bits c = λ j less. all_ones c.args.self.now j c.requires.ready.narrow less
