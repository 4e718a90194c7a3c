-- The text of a form in three parts, and the rows as far as they are written.
use Rattle.std.specs.Prelude.{if◌then◌else◌, ◌++◌, ℕ, Bool, false, List, [], ◌∷◌, codes, map}
use Rattle.io_text.specs.Text.{line_text}
use Rattle.diagram_program.specs.Program.{Drawing}
use Rattle.search_groups.specs.Groups.{Row}
use Rattle.causes_one_scan.specs.GroupCursor.{GroupCursor}
use Rattle.text_causes.specs.CauseText.{name_of}
use Rattle.text_causes.specs.GroupText.{group_header, group_record}
use Rattle.text_causes.specs.TermText.{bracketed, literals, term}
use Rattle.text_causes.specs.declared.group_text.GroupForm.{GroupForm}
use Rattle.text_causes.specs.declared.group_text.GroupForm.TheVariants.{Statement, Table, Terms}

abbrev pub start_text : GroupForm → Drawing → List ℕ → List ℕ
start_text Table p listed = line_text (group_header p listed)
start_text Terms p listed = []
start_text (Statement coil) p listed = name_of p coil ++ codes " := "

abbrev pub names : GroupCursor → List (List ℕ)
names c = map (name_of c.program) c.listed

abbrev pub joint : Bool → List ℕ
joint first = if first then [] else codes "\n    OR "

-- the text of a row, which is the first one or isn't
abbrev pub row_text : GroupForm → List (List ℕ) → Bool → Row → List ℕ
row_text Table names first row = line_text (group_record row)
row_text Terms names first row = term (literals names row) ++ codes "\n"
row_text (Statement coil) names first row = joint first ++ bracketed (literals names row)

unfoldable pub rows_text : GroupForm → List (List ℕ) → Bool → List Row → List ℕ
rows_text form names first [] = []
rows_text form names first (r ∷ rs) = row_text form names first r ++ rows_text form names false rs

-- what stands after the last row, where there is one or there is none
abbrev pub end_text : GroupForm → Bool → List ℕ
end_text Table none = []
end_text Terms none = []
end_text (Statement coil) none = if none then codes "FALSE;\n" else codes ";\n"
