use Rattle.std.specs.Prelude.{◌≡◌, ◌≤◌, count_by, take}
use Rattle.diff_findings.specs.Tally.{is_judged_different, is_judged_open, is_judged_same}
use Rattle.diff_findings.proofs.tally.count_verdicts.Given as goal

abbrev pub invariant-loop-finding : goal.invariant-loop-finding
invariant-loop-finding l = record {
  same : l.same ≡ count_by is_judged_same (take l.finding-index l.list);
  differs : l.differs ≡ count_by is_judged_different (take l.finding-index l.list);
  unsettled : l.unsettled ≡ count_by is_judged_open (take l.finding-index l.list);
  same_few : l.same ≤ l.finding-index;
  differs_few : l.differs ≤ l.finding-index;
  unsettled_few : l.unsettled ≤ l.finding-index;
}
