use Rattle.causes_one_scan.proofs.Deciding.{are_listable}
use Rattle.causes_one_scan.proofs.relevant_laws.listable.Goals as goal

pub returns : goal.returns
returns c = are_listable
