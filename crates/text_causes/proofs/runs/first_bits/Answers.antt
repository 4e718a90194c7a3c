use Rattle.text_causes.proofs.RunLaws.{first_of}
use Rattle.text_causes.proofs.runs.first_bits.Goals as goal

pub returns-clause-first : goal.returns-clause-first
returns-clause-first c = λ j low. (first_of c.args.mask c.args.count j c.requires.0 c.requires.1).0 low

pub returns-clause-others : goal.returns-clause-others
returns-clause-others c = λ j high. (first_of c.args.mask c.args.count j c.requires.0 c.requires.1).1 high
