use Rattle.diff_runs.specs.Assuming.{assumptions}
use Rattle.cli_run_verdicts.specs.Assuming.{assumption}
use Rattle.cli_run_verdicts.proofs.Finding.{found_all, found_some}
use Rattle.cli_run_verdicts.proofs.writing.write_found.Goals as goal

pub returns-clause-done : goal.returns-clause-done
returns-clause-done g c =
    found_all (assumption c.args.assuming) c.args.old.now c.args.new.now c.args.matching.now c.args.found.now c.in-Ok.verdicts _ _
    c.requires.names c.requires.found c.in-Ok.ensures.told (c.in-Ok.ensures.truth (assumptions c.args.assuming.assumed) c.args.old.now c.args.new.now c.requires.found)
    c.write_told-written.result c.write_told-written.ensures

pub returns-clause-failed : goal.returns-clause-failed
returns-clause-failed g c =
    found_some (assumption c.args.assuming) c.args.old.now c.args.new.now c.args.matching.now c.args.found.now c.in-Ok.verdicts _ _
    c.requires.names c.requires.found c.in-Ok.ensures.told (c.in-Ok.ensures.truth (assumptions c.args.assuming.assumed) c.args.old.now c.args.new.now c.requires.found)
    c.write_told-written.result c.write_told-written.ensures
