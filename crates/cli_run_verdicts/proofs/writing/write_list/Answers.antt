use Rattle.cli_run_verdicts.proofs.Finding.{listed}
use Rattle.cli_run_verdicts.proofs.writing.write_list.Goals as goal

pub returns-in-Ok : goal.returns-in-Ok
returns-in-Ok g c =
    let a = c.args.compared in
    listed c.args.expressions a.old.now a.new.now a.matching.now a.verdicts.now c.args.list.now _ _ c.requires _ c.counts_of.ensures c.in-Ok.ensures
