-- The text of groups by class: a record with the names of the listed inputs, and one for each group.
use Rattle.std.specs.Prelude.{◌==◌, ℕ, List, ◌∷◌, length, map, codes, decimal, filter, not}
use Rattle.search_groups.specs.Classes.{numbers_in}
use Rattle.search_groups.specs.declared.class_walk.ClassGroup.{ClassGroup}
use Rattle.diagram_program.specs.Program.{Drawing}
use Rattle.search_groups.specs.Groups.{Row, cells, size}
use Rattle.causes_any_state.specs.declared.table.TheConstants.{SETTLED}
use Rattle.io_text.specs.Left.{Fields}
use Rattle.io_text.specs.Text.{lines_text}
use Rattle.text_causes.specs.CauseText.{name_of}
use Rattle.text_causes.specs.GroupText.{cell_text}
use Rattle.text_lists.specs.PossibleText.{mark}

-- how many causes the row stands for, in decimal, the column of their class, and the row's cells
abbrev pub class_record : List ℕ → Row → Fields
class_record column row = decimal (size row) ∷ column ∷ map cell_text row

-- ---- over several scans

abbrev pub held_group_header : Drawing → List ℕ → Fields
held_group_header p listed = codes "causes" ∷ codes "scan" ∷ map (name_of p) listed

-- The class is the first scan after which the coil is ON.
abbrev pub held_group_record : ℕ → ClassGroup → Fields
held_group_record k r = class_record (decimal r.class) (cells k r.group)

abbrev pub held_group_text : Drawing → List ℕ → List ClassGroup → List ℕ
held_group_text p listed groups = lines_text (held_group_header p listed ∷ map (held_group_record (length listed)) groups)

-- ---- of what is possible, or forced

abbrev pub possible_group_header : Drawing → List ℕ → Fields
possible_group_header p listed = codes "causes" ∷ codes "settled" ∷ map (name_of p) listed

-- The class tells whether it is settled what is claimed of the group's numbers.
abbrev pub possible_group_record : ℕ → ClassGroup → Fields
possible_group_record k r = class_record (mark (r.class == SETTLED)) (cells k r.group)

abbrev pub possible_group_text : Drawing → List ℕ → List ClassGroup → List ℕ
possible_group_text p listed groups =
    lines_text (possible_group_header p listed ∷ map (possible_group_record (length listed)) groups)

-- how many numbers of some groups aren't settled
abbrev pub unsettled_in : ℕ → List ClassGroup → ℕ
unsettled_in k groups = numbers_in k (filter (λ r. not (r.class == SETTLED)) groups)
