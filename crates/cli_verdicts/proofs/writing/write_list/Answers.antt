use Rattle.diff_cases.specs.Assuming.{assumed_of_both}
use Rattle.cli_verdicts.specs.Ending.{assumption_of}
use Rattle.cli_verdicts.proofs.Finding.{listed, said_where}
use Rattle.cli_verdicts.proofs.writing.write_list.Goals as goal

pub returns-in-Ok-write_findings : goal.returns-in-Ok-write_findings
returns-in-Ok-write_findings g c =
    let a = c.args.compared in
    listed (assumption_of c.args.assumed) a.old.now a.new.now a.matching.now a.verdicts.now c.args.list.now _ _ c.requires.list c.in-Ok.is_equivalent _
    (said_where (assumption_of c.args.assumed) (assumed_of_both a.counted.now.assumed) a.matching.now a.old.now a.new.now a.verdicts.now c.in-Ok.is_equivalent c.requires.assumed
    c.in-Ok.ensures) c.counts_of.ensures
    c.in-Ok-write_findings.ensures
