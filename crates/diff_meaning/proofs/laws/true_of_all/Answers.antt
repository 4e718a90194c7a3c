use Rattle.diff_meaning.proofs.Nothing.{true_of_all, witnesses_of_all}
use Rattle.diff_meaning.proofs.laws.true_of_all.Goals as goal

pub returns : goal.returns
returns c = record {
  verdicts = true_of_all c.args.old.now c.args.new.now;
  witnesses = witnesses_of_all c.args.old.now c.args.new.now;
}
