-- The text of what is found of two programs: a record for each finding.
use Rattle.std.specs.Prelude.{◌∷◌, ◌++◌, ◌==◌, ℕ, List, [], Option, Some, None, codes, decimal, if◌then◌else◌, map}
use Rattle.diagram_declarations.specs.Decls.{instance_name, var_name}
use Rattle.diagram_declarations.specs.declared.decls.Address.{Address}
use Rattle.diagram_program.specs.Program.{Drawing}
use Rattle.diff_matching.specs.Names.{owner_of}
use Rattle.diff_matching.specs.declared.owner.Owner.{Owner}
use Rattle.diff_matching.specs.declared.owner.Owner.TheVariants as owner
use Rattle.diff_meaning.specs.declared.verdict.Verdict.{Verdict}
use Rattle.diff_meaning.specs.declared.verdict.Verdict.TheVariants.{Same, Differs, Unsettled}
use Rattle.diff_findings.specs.declared.finding.Finding.{Finding}
use Rattle.diff_findings.specs.declared.finding.Remark.{Remark}
use Rattle.diff_findings.specs.declared.finding.Remark.TheVariants.{Judged, Initial, Preset, Moved, Alone}
use Rattle.diff_findings.specs.declared.finding.Sort.{Sort}
use Rattle.diff_findings.specs.declared.finding.Sort.TheVariants.{NewVariable, NewInstance, OldVariable, OldInstance, NewEdge}
use Rattle.diff_findings.specs.declared.finding.Subject.{Subject}
use Rattle.io_text.specs.Left.{Fields}
use Rattle.io_text.specs.Text.{bit_text, lines_text}
use Rattle.search_differences.specs.declared.side.Side.{Side}
use Rattle.search_differences.specs.declared.side.Side.TheVariants.{Old, New}
use Rattle.text_findings.specs.declared.value.Value.{Value}
use Rattle.text_findings.specs.declared.value.Value.TheVariants.{Nothing, Bit, Number, Place}

-- ---- names

-- the name of what an edge contact reads, or an edge coil writes
abbrev pub edge_name : Drawing → Option Owner → List ℕ
edge_name q (Some (owner.Variable var)) = var_name q.decls var
edge_name q (Some (owner.Output inst)) = instance_name q.decls inst
edge_name q (Some (owner.Coil var)) = var_name q.decls var
edge_name q None = []

abbrev pub name_of_sort : Drawing → Drawing → Sort → ℕ → List ℕ
name_of_sort p q NewVariable n = var_name q.decls n
name_of_sort p q NewInstance n = instance_name q.decls n
name_of_sort p q OldVariable n = var_name p.decls n
name_of_sort p q OldInstance n = instance_name p.decls n
name_of_sort p q NewEdge n = edge_name q (owner_of q n)

abbrev pub name_of : Drawing → Drawing → Subject → List ℕ
name_of p q s = name_of_sort p q s.sort s.number

-- what stands behind the name of an edge
abbrev pub mark_of : Sort → List ℕ
mark_of NewEdge = codes " edge"
mark_of other = []

-- ---- values

-- the first letters of an address
abbrev pub letters : ℕ → List ℕ
letters letter = if letter == 73 then codes "%IX" else if letter == 81 then codes "%QX" else codes "%MX"

abbrev pub second_part : Option ℕ → List ℕ
second_part (Some n) = codes "." ++ decimal n
second_part None = []

abbrev pub address_text : Address → List ℕ
address_text a = letters a.letter ++ (decimal a.first ++ second_part a.second)

abbrev pub place_text : Option Address → List ℕ
place_text (Some a) = address_text a
place_text None = []

abbrev pub value_text : Value → List ℕ
value_text Nothing = []
value_text (Bit b) = bit_text b
value_text (Number n) = decimal n
value_text (Place a) = place_text a

-- ---- records

-- of the old program the first one, of the new one the second
abbrev pub of_side : {A : Type 0} → Side → A → A → A
of_side Old a b = a
of_side New a b = b

-- which program alone has it
abbrev pub side_word : Sort → List ℕ
side_word OldVariable = codes "old"
side_word OldInstance = codes "old"
side_word other = codes "new"

abbrev pub verdict_word : Verdict → List ℕ
verdict_word Same = codes "same"
verdict_word (Differs old new) = codes "differs"
verdict_word Unsettled = codes "?"

abbrev pub word_of : Sort → Remark → List ℕ
word_of sort (Judged v) = verdict_word v
word_of sort (Initial old new) = codes "initial"
word_of sort (Preset old new) = codes "preset"
word_of sort (Moved old new) = codes "moved"
word_of sort Alone = side_word sort

-- what is said of one of the programs
abbrev pub verdict_value : Side → Verdict → Value
verdict_value side (Differs old new) = Bit (of_side side old new)
verdict_value side other = Nothing

abbrev pub value_in : Side → Remark → Value
value_in side (Judged v) = verdict_value side v
value_in side (Initial old new) = Bit (of_side side old new)
value_in side (Preset old new) = Number (of_side side old new)
value_in side (Moved old new) = Place (of_side side old new)
value_in side Alone = Nothing

abbrev pub finding_record : Drawing → Drawing → Finding → Fields
finding_record p q f =
    (name_of p q f.subject ++ mark_of f.subject.sort) ∷ word_of f.subject.sort f.remark ∷ value_text (value_in Old f.remark) ∷ value_text (value_in New f.remark) ∷ []

abbrev pub header : Fields
header = codes "name" ∷ codes "result" ∷ codes "old" ∷ codes "new" ∷ []

-- a header, and a record for each finding
abbrev pub findings_text : Drawing → Drawing → List Finding → List ℕ
findings_text p q list = lines_text (header ∷ map (finding_record p q) list)
