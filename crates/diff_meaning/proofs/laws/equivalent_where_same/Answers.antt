use Rattle.diff_meaning.specs.Counting.{Count, CountAssuming}
use Rattle.diff_meaning.proofs.Equivalent.{equivalent}
use Rattle.diff_meaning.proofs.laws.equivalent_where_same.Goals as goal

pub returns : goal.returns
returns c = record {
  all = λ states m verdicts. equivalent (Count states) m c.args.old.now c.args.new.now verdicts;
  assuming = λ counted m verdicts. equivalent (CountAssuming counted) m c.args.old.now c.args.new.now verdicts;
}
