use Rattle.diff_matching.proofs.Suiting.{no_input}
use Rattle.diff_beside.proofs.suiting.is_suited.Goals as goal

pub returns-clause-no_input : goal.returns-clause-no_input
returns-clause-no_input c = λ is. no_input c.args.old.now c.args.new.now c.args.matching.now (c.suits.ensures is)
