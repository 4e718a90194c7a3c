use Rattle.diff_runs.specs.Assuming.{assumptions}
use Rattle.diff_run_verdicts.proofs.findings.known_of.Goals as goal

pub returns : goal.returns
returns c =
    let k = c.args.known in
    c.nothing_known.ensures (assumptions k.assumed) k.matching.now k.old.now k.new.now c.args.symbols
