use Rattle.assume_comments.proofs.Blocks.{have_comments}
use Rattle.assume_comments.proofs.laws.have_comments.Goals as goal

pub returns : goal.returns
returns c = have_comments
