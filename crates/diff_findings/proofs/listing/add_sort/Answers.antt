use Rattle.diff_findings.specs.Findings.{findings_on}
use Rattle.diff_findings.proofs.Growing.{one_number}
use Rattle.diff_findings.proofs.listing.add_sort.Goals as goal

pub loop-number-preserved : goal.loop-number-preserved
loop-number-preserved c =
    let a = c.args.compared in
    one_number (λ n. findings_on a.old.now a.new.now a.matching.now a.verdicts.now (record { sort = c.args.sort; number = n }))
    c.args.list.now.items c.loop-number.list.items _ c.loop-number.number c.loop-number.invariant c.in_ok-add_remarks.ensures
