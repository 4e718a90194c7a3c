use Rattle.diff_run_verdicts.proofs.ForEver.{never_shown}
use Rattle.diff_run_verdicts.proofs.findings.stay_alike.Goals as goal

pub returns-in-Some : goal.returns-in-Some
returns-in-Some c = λ so scans some runs assumed.
    let k = c.args.known in
    never_shown c.in-Some.alike.now k.matching.now k.old.now k.new.now (rw c.in-Some.is at c.requires) c.args.symbols (c.belong_together.ensures so) scans some runs
