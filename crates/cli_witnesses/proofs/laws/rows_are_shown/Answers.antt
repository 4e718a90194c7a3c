use Rattle.diff_meaning.specs.Counting.{Count, CountAssuming}
use Rattle.cli_witnesses.proofs.Rows.{rows_shown}
use Rattle.cli_witnesses.proofs.laws.rows_are_shown.Goals as goal

pub returns : goal.returns
returns c = record {
  all = λ states. rows_shown (Count states) c.args.old.now c.args.new.now;
  assuming = λ counted. rows_shown (CountAssuming counted) c.args.old.now c.args.new.now;
}
