-- The names that were judged, as the rows have them.
use Rattle.std.specs.Prelude.{◌++◌, ℕ, List, [], map, option_map, slice_get, unwrap_or}
use Rattle.diff_matching.specs.Matching.{Matching}
use Rattle.diff_matching.specs.declared.matching.Pair.{Pair}
use Rattle.diff_findings.specs.declared.finding.Sort.TheVariants.{NewVariable, NewInstance}
use Rattle.diff_findings.specs.declared.finding.Subject.{Subject}
use Rattle.text_findings.specs.FindingText.{name_of}
use Rattle.cli_run_verdicts.specs.Judged.{JudgedInRuns}

-- what the row is about
abbrev pub variable_subject : Pair → Subject
variable_subject x = record { sort = NewVariable; number = x.new }

abbrev pub instance_subject : Pair → Subject
instance_subject x = record { sort = NewInstance; number = x.new }

-- those of variables, and then of instances
abbrev pub subjects_of : Matching → List Subject
subjects_of m = map variable_subject m.variables ++ map instance_subject m.instances

-- the name with a number, where there is one
abbrev pub run_name : JudgedInRuns → ℕ → List ℕ
run_name j number = unwrap_or (option_map (name_of j.old j.new) (slice_get (subjects_of j.matching) number)) []
