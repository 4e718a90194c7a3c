use Rattle.cli_verdicts.proofs.Finding.{found_all, found_some}
use Rattle.cli_verdicts.proofs.writing.write_counted.Goals as goal

pub returns-in-Ok-written-clause-done : goal.returns-in-Ok-written-clause-done
returns-in-Ok-written-clause-done g c =
    found_all c.args.old.now c.args.new.now c.args.matching.now c.args.counted.now c.in-Ok.judgement.verdicts c.requires.names c.in-Ok.ensures.verdicts
    c.true_of_all.ensures.verdicts c.args.wanted _ _ c.requires.counted c.true_of_all.ensures.witnesses c.in-Ok.judgement.witnesses.items c.in-Ok-written.counts
    c.in-Ok.ensures.kept c.in-Ok-written.ensures

pub returns-in-Err-written-clause-failed : goal.returns-in-Err-written-clause-failed
returns-in-Err-written-clause-failed g c =
    found_some c.args.old.now c.args.new.now c.args.matching.now c.args.counted.now c.in-Ok.judgement.verdicts c.requires.names c.in-Ok.ensures.verdicts
    c.true_of_all.ensures.verdicts c.args.wanted _ _ c.requires.counted c.in-Err-written.fault c.in-Err-written.ensures
