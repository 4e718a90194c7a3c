use Rattle.diff_runs.specs.Assuming.{assumptions}
use Rattle.diff_search.specs.Differences.{IsTrueInRunsAssuming}
use Rattle.diff_run_verdicts.proofs.Listing.{AreSoBelow}
use Rattle.diff_run_verdicts.proofs.searching.find_sort.Given as goal

abbrev pub invariant-loop-number : goal.invariant-loop-number
invariant-loop-number l =
    let s = l.seeking.sides in
    AreSoBelow (IsTrueInRunsAssuming (assumptions s.assumed) s.matching.now s.old.now s.new.now) s.matching.now l.sort l.number l.list.items
