-- The name of a witness: that of the row that it shows, and of its files.
use Rattle.std.specs.Prelude.{◌==◌, ◌+◌, ◌++◌, ◌&&◌, ℕ, Bool, List, [], Option, Some, None, bytes_eq, codes, count_by, decimal, if◌then◌else◌, slice_get, take}
use Rattle.diagram_program.specs.Program.{Drawing}
use Rattle.diff_cases.specs.declared.target.Target.{Target}
use Rattle.diff_cases.specs.declared.target.Target.TheVariants.{Variable, Memory, Contents}
use Rattle.diff_findings.specs.declared.finding.Sort.TheVariants.{NewVariable, NewInstance, NewEdge}
use Rattle.diff_findings.specs.declared.finding.Subject.{Subject}
use Rattle.diff_meaning.specs.declared.witness.Witness.{Witness}
use Rattle.text_findings.specs.FindingText.{mark_of, name_of}
use Rattle.cli_witnesses.specs.Witnessed.{Witnessed}

-- what the row of a difference is about
abbrev pub subject_of : Target → Subject
subject_of (Variable x) = record { sort = NewVariable; number = x.new }
subject_of (Contents x) = record { sort = NewInstance; number = x.new }
subject_of (Memory x) = record { sort = NewEdge; number = x.new }

-- its name, as the row has it, without what stands behind the name of an edge, and what stands there
abbrev pub row_name : Drawing → Drawing → Witness → List ℕ
row_name p q w = name_of p q (subject_of w.target)

abbrev pub row_mark : Witness → List ℕ
row_mark w = mark_of (subject_of w.target).sort

-- Both rows have the same name.
abbrev pub have_one_name : Drawing → Drawing → Witness → Witness → Bool
have_one_name p q w v = bytes_eq (row_name p q w) (row_name p q v) && bytes_eq (row_mark w) (row_mark v)

-- how many before a place have the name
abbrev pub earlier : Witnessed → Witness → ℕ → ℕ
earlier j w number = count_by (have_one_name j.old j.new w) (take number j.witnesses)

-- what stands behind a name that so many before have: the second one is 2
abbrev pub again : ℕ → List ℕ
again before = if before == 0 then [] else codes " " ++ decimal (before + 1)

-- the name of the files of the witness with a number, where there is one
abbrev pub name_at : Witnessed → ℕ → Option Witness → List ℕ
name_at j number (Some w) = row_name j.old j.new w ++ (row_mark w ++ again (earlier j w number))
name_at j number None = []

abbrev pub file_name : Witnessed → ℕ → List ℕ
file_name j number = name_at j number (slice_get j.witnesses number)
