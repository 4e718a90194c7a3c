use Rattle.std.proofs.Common.{◌≡◌, subst, take_all}
use Rattle.std.specs.List.{flat_map}
use Rattle.diff_findings.specs.Findings.{all_sorts, findings, findings_of}
use Rattle.diff_findings.proofs.listing.findings.Goals as goal

pub returns : goal.returns
unfolding findings
returns c =
    let a = c.args.compared in
    let i = c.loop-sort.sort-index in
    let all = take_all i all_sorts (rw c.as_slice-sort-items.ensures at c.loop-sort-test.false) in
    subst (λ some. c.loop-sort.list.items ≡ flat_map (findings_of a.old.now a.new.now a.matching.now a.verdicts.now) some) all c.loop-sort.invariant
