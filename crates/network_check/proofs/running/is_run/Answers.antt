use Rattle.network_check.proofs.Statements.{run_by}
use Rattle.network_check.proofs.running.is_run.Goals as goal

pub returns : goal.returns
returns c = λ found. run_by _ _ _ (c.do_all.ensures found)
