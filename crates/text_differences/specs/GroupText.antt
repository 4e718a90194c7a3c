-- The text of groups of what two programs do differently: a table, a line with a term for each group, or two statements in Structured Text.
use Rattle.std.specs.Prelude.{◌≡◌, ◌≤◌, ℕ, List, ◌∷◌, ◌++◌, Option, codes, decimal, drop, flat_map, length, map}
use Rattle.io_text.specs.Left.{Fields}
use Rattle.io_text.specs.Text.{lines_text}
use Rattle.diagram_program.specs.Program.{Drawing}
use Rattle.search_groups.specs.Groups.{Row, size}
use Rattle.search_differences.specs.declared.side.Side.{Side}
use Rattle.search_differences.specs.declared.side.Side.TheVariants.{Old, New}
use Rattle.diff_causes.specs.GroupCursor.{DifferenceGroupCursor, KeepsGroupQuestions, group_rows_left}
use Rattle.text_causes.specs.CauseText.{limited, name_of}
use Rattle.text_causes.specs.GroupText.{cell_text}
use Rattle.text_causes.specs.Limit.{limit_left}
use Rattle.text_causes.specs.TermText.{literals, statement_text, term}
use Rattle.text_causes.specs.declared.group_text.GroupForm.{GroupForm}
use Rattle.text_causes.specs.declared.group_text.GroupForm.TheVariants.{Statement, Table, Terms}
use Rattle.text_differences.specs.DifferenceText.{columns}

abbrev pub difference_group_header : Drawing → List ℕ → Fields
difference_group_header p listed = codes "differences" ∷ codes "old" ∷ codes "new" ∷ map (name_of p) listed

-- how many differences the row stands for, in decimal, the columns of the programs, and the row's cells
abbrev pub difference_group_record : Side → Row → Fields
difference_group_record side row = decimal (size row) ∷ (columns side ++ map cell_text row)

-- what stands before the term of a group: whether the old program alone leaves the coil ON, or the new one
abbrev pub sign : Side → List ℕ
sign Old = codes "- "
sign New = codes "+ "

abbrev pub signed_terms : Side → List (List ℕ) → List Row → List ℕ
signed_terms side names rows = flat_map (λ r. sign side ++ (term (literals names r) ++ codes "\n")) rows

-- what a statement has behind the coil's name
abbrev pub suffix : Side → List ℕ
suffix Old = codes "_old"
suffix New = codes "_new"

-- the text of these groups in any form: those of which the old program alone leaves the coil ON, and then those of the new one
abbrev pub difference_group_text : GroupForm → Drawing → List ℕ → List Row → List Row → List ℕ
difference_group_text Table p listed old_rows new_rows =
    lines_text (difference_group_header p listed ∷ (map (difference_group_record Old) old_rows ++ map (difference_group_record New) new_rows))
difference_group_text Terms p listed old_rows new_rows =
    signed_terms Old (map (name_of p) listed) old_rows ++ signed_terms New (map (name_of p) listed) new_rows
difference_group_text (Statement coil) p listed old_rows new_rows =
    statement_text (name_of p coil ++ suffix Old) (map (name_of p) listed) old_rows
    ++ statement_text (name_of p coil ++ suffix New) (map (name_of p) listed) new_rows

-- Of the rows that two cursors have left, a limit of both allows the first ones of the old program, and then as many of the new one as are left.
abbrev pub old_rows_of : Option ℕ → DifferenceGroupCursor → List Row
old_rows_of limit old = limited limit (group_rows_left old)

abbrev pub new_rows_of : Option ℕ → DifferenceGroupCursor → DifferenceGroupCursor → List Row
new_rows_of limit old new = limited (limit_left limit (length (old_rows_of limit old))) (group_rows_left new)

-- The cursor has given n of its groups, and goes on with what it was asked.
pub record TakesDifferenceGroups (old new : DifferenceGroupCursor) (n : ℕ) : Type 0 where
  pub questions : KeepsGroupQuestions old new
  pub rest : new.rest ≡ drop n old.rest

-- It has given some of them, at most this many.
abbrev pub TakesDifferenceGroupsAtMost : DifferenceGroupCursor → DifferenceGroupCursor → ℕ → Type 0
TakesDifferenceGroupsAtMost old new most = (n : ℕ) × (n ≤ most) × TakesDifferenceGroups old new n
