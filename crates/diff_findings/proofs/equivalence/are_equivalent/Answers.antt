use Rattle.std.proofs.Common.{◌≡◌, false, rules}
use Rattle.std.specs.List.{list_any}
use Rattle.diff_meaning.specs.Verdicts.{AreAllSame}
use Rattle.diff_findings.specs.Equivalence.{BeginAlike, is_about_terminals}
use Rattle.diff_findings.specs.Findings.{findings}
use Rattle.diff_findings.proofs.equivalence.are_equivalent.Goals as goal

pub returns-in-Ok-true : goal.returns-in-Ok-true
returns-in-Ok-true c =
    let a = c.args.compared in
    let same : AreAllSame a.verdicts.now = search rules in
    let begin : BeginAlike a.matching.now a.old.now a.new.now = search rules in
    let untold : list_any (is_about_terminals a.old.now a.new.now) (findings a.old.now a.new.now a.matching.now a.verdicts.now) ≡ false = search rules in (
      same,
      begin,
      untold,
      λ scans runs as_assumed.
          c.fresh_runs_agree_assuming.ensures a.counted.now a.matching.now a.verdicts.now c.requires.stays c.requires.judged same c.requires.no_input begin.0 scans runs as_assumed,
    )
