use Rattle.std.specs.Prelude.{◌≡◌, take}
use Rattle.std.specs.List.{flat_map}
use Rattle.diff_findings.specs.Findings.{all_sorts, findings_of}
use Rattle.diff_findings.proofs.listing.findings.Given as goal

abbrev pub invariant-loop-sort : goal.invariant-loop-sort
invariant-loop-sort l = l.list.items ≡ flat_map (findings_of l.compared.old.now l.compared.new.now l.compared.matching.now l.compared.verdicts.now) (take l.sort-index all_sorts)
