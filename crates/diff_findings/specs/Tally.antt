-- How many names were judged how.
use Rattle.std.specs.Prelude.{Bool, true, false, List, count_by}
use Rattle.diff_meaning.specs.declared.verdict.Verdict.{Verdict}
use Rattle.diff_meaning.specs.declared.verdict.Verdict.TheVariants.{Same, Differs, Unsettled}
use Rattle.diff_findings.specs.declared.finding.Finding.{Finding}
use Rattle.diff_findings.specs.declared.finding.Remark.{Remark}
use Rattle.diff_findings.specs.declared.finding.Remark.TheVariants.{Judged}
use Rattle.diff_findings.specs.declared.tally.Tally.{Tally}

abbrev pub says_same : Remark → Bool
says_same (Judged Same) = true
says_same other = false

abbrev pub says_different : Remark → Bool
says_different (Judged (Differs old new)) = true
says_different other = false

abbrev pub says_open : Remark → Bool
says_open (Judged Unsettled) = true
says_open other = false

abbrev pub is_judged_same : Finding → Bool
is_judged_same f = says_same f.remark

abbrev pub is_judged_different : Finding → Bool
is_judged_different f = says_different f.remark

abbrev pub is_judged_open : Finding → Bool
is_judged_open f = says_open f.remark

abbrev pub tally_of : List Finding → Tally
tally_of list = record { same = count_by is_judged_same list; differs = count_by is_judged_different list; unsettled = count_by is_judged_open list }
