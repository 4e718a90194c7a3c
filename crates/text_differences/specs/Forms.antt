-- Private to the writer of groups: the text of a form in its parts, and the rows of a side as far as they are written.
use Rattle.std.specs.Prelude.{◌==◌, ◌++◌, ℕ, Bool, true, false, List, [], ◌∷◌, codes, length, map}
use Rattle.io_text.specs.Text.{line_text}
use Rattle.diagram_program.specs.Program.{Drawing}
use Rattle.search_groups.specs.Groups.{Row}
use Rattle.search_differences.specs.declared.side.Side.{Side}
use Rattle.text_causes.specs.CauseText.{name_of}
use Rattle.text_causes.specs.Forms.{end_text, joint}
use Rattle.text_causes.specs.TermText.{bracketed, literals, term}
use Rattle.text_causes.specs.declared.group_text.GroupForm.{GroupForm}
use Rattle.text_causes.specs.declared.group_text.GroupForm.TheVariants.{Statement, Table, Terms}
use Rattle.text_differences.specs.GroupText.{difference_group_header, difference_group_record, sign, suffix}
use Rattle.text_differences.specs.declared.group_rows.GroupView.{GroupView}

-- what stands before the rows of both sides
abbrev pub start_text : GroupForm → Drawing → List ℕ → List ℕ
start_text Table p listed = line_text (difference_group_header p listed)
start_text Terms p listed = []
start_text (Statement coil) p listed = []

-- what stands before the rows of a side
abbrev pub target_text : GroupForm → Drawing → Side → List ℕ
target_text Table p side = []
target_text Terms p side = []
target_text (Statement coil) p side = name_of p coil ++ (suffix side ++ codes " := ")

-- the text of a row, which is the first one of its side or isn't
abbrev pub row_text : GroupForm → Side → List (List ℕ) → Bool → Row → List ℕ
row_text Table side names first row = line_text (difference_group_record side row)
row_text Terms side names first row = sign side ++ (term (literals names row) ++ codes "\n")
row_text (Statement coil) side names first row = joint first ++ bracketed (literals names row)

unfoldable pub rows_text : GroupForm → Side → List (List ℕ) → Bool → List Row → List ℕ
rows_text form side names first [] = []
rows_text form side names first (r ∷ rs) = row_text form side names first r ++ rows_text form side names false rs

-- the text of a side
abbrev pub side_text : GroupForm → Drawing → List ℕ → Side → List Row → List ℕ
side_text form p listed side rows =
    target_text form p side ++ (rows_text form side (map (name_of p) listed) true rows ++ end_text form (length rows == 0))

abbrev pub names_in : GroupView → List (List ℕ)
names_in v = map (name_of v.program.now) v.listed.now
