use Rattle.diff_runs.specs.Assuming.{assumptions}
use Rattle.diff_search.specs.Differences.{IsTrueInRunsAssuming}
use Rattle.diff_run_verdicts.proofs.Listing.{AreSoBelow}
use Rattle.diff_run_verdicts.proofs.findings.known_sort.Given as goal

abbrev pub invariant-loop-number : goal.invariant-loop-number
invariant-loop-number l =
    let k = l.known in
    AreSoBelow (IsTrueInRunsAssuming (assumptions k.assumed) k.matching.now k.old.now k.new.now) k.matching.now l.sort l.number l.list.items
