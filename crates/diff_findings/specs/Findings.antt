-- What is said of two programs: of each name what was judged of it, and what their declarations say.
use Rattle.std.specs.Prelude.{◌∷◌, ◌++◌, ◌==◌, ◌&&◌, ◌||◌, ℕ, Bool, true, false, not, if◌then◌else◌, List, [], Option, Some, None, is_none, length, map, position, slice_get, slice_index_or, unwrap_or, option_map}
use Rattle.std.specs.List.{flat_map, range_with_len}
use Rattle.diagram_declarations.specs.Decls.{same_address}
use Rattle.diagram_declarations.specs.declared.decls.Address.{Address}
use Rattle.diagram_program.specs.Program.{Drawing, has_coil, memories_of}
use Rattle.scan_cycle.specs.Programs.{diagram_of}
use Rattle.diff_matching.specs.Matching.{Matching}
use Rattle.diff_matching.specs.declared.matching.Pair.{Pair}
use Rattle.diff_meaning.specs.declared.verdict.Verdict.{Verdict}
use Rattle.diff_meaning.specs.declared.verdict.Verdict.TheVariants.{Same, Unsettled}
use Rattle.diff_meaning.specs.declared.verdict.Verdicts.{Verdicts}
use Rattle.diff_findings.specs.declared.finding.Finding.{Finding}
use Rattle.diff_findings.specs.declared.finding.Remark.{Remark}
use Rattle.diff_findings.specs.declared.finding.Remark.TheVariants.{Judged, Initial, Preset, Moved, Alone}
use Rattle.diff_findings.specs.declared.finding.Sort.{Sort}
use Rattle.diff_findings.specs.declared.finding.Sort.TheVariants.{NewVariable, NewInstance, OldVariable, OldInstance, NewEdge}
use Rattle.diff_findings.specs.declared.finding.Subject.{Subject}

-- ---- pairs

-- the place of the pair that a number of one program is in, where there is one
abbrev pub place_of_old : List Pair → ℕ → Option ℕ
place_of_old pairs a = position (λ x. x.old == a) pairs

abbrev pub place_of_new : List Pair → ℕ → Option ℕ
place_of_new pairs b = position (λ x. x.new == b) pairs

abbrev pub pair_at : List Pair → ℕ → Pair
pair_at pairs n = slice_index_or pairs n (record { old = 0; new = 0 })

abbrev pub verdict_at : List Verdict → ℕ → Verdict
verdict_at verdicts n = slice_index_or verdicts n Unsettled

-- ---- declarations

abbrev pub initial_of : Drawing → ℕ → Bool
initial_of p var = unwrap_or (option_map (λ v. v.initial) (slice_get p.decls.vars var)) false

abbrev pub address_of : Drawing → ℕ → Option Address
address_of p var = unwrap_or (option_map (λ v. v.address) (slice_get p.decls.vars var)) None

abbrev pub preset_of : Drawing → ℕ → ℕ
preset_of p inst = (diagram_of p).preset inst

-- a coil of either program writes the variable
abbrev pub is_written : Drawing → Drawing → Pair → Bool
is_written p q x = has_coil x.old p || has_coil x.new q

abbrev pub is_same_bit : Bool → Bool → Bool
is_same_bit a b = if a then b else not b

abbrev pub is_same_place : Option Address → Option Address → Bool
is_same_place (Some a) (Some b) = same_address a b
is_same_place None None = true
is_same_place a b = false

abbrev pub is_same : Verdict → Bool
is_same Same = true
is_same other = false

-- ---- what is said

-- this, where it is so
abbrev pub one_if : Bool → Remark → List Remark
one_if so r = if so then r ∷ [] else []

-- of two variables that belong together, by what is declared of them
abbrev pub declared_remarks : Drawing → Drawing → Pair → List Remark
declared_remarks p q x =
    one_if (not (is_same_bit (initial_of p x.old) (initial_of q x.new))) (Initial (initial_of p x.old) (initial_of q x.new))
    ++ one_if (not (is_same_place (address_of p x.old) (address_of q x.new))) (Moved (address_of p x.old) (address_of q x.new))

-- of two variables that are no inputs: the verdict, where a coil writes one
abbrev pub variable_remarks : Drawing → Drawing → Pair → Verdict → List Remark
variable_remarks p q x v = one_if (is_written p q x) (Judged v) ++ declared_remarks p q x

-- of two instances
abbrev pub instance_remarks : Drawing → Drawing → Pair → Verdict → List Remark
instance_remarks p q x v = Judged v ∷ one_if (not (preset_of p x.old == preset_of q x.new)) (Preset (preset_of p x.old) (preset_of q x.new))

-- of an input of the new program, or of a variable that it alone has
abbrev pub input_remarks : Drawing → Drawing → Matching → ℕ → List Remark
input_remarks p q m b = elim (place_of_new m.inputs b) [ Some n ↦ declared_remarks p q (pair_at m.inputs n) | None ↦ Alone ∷ [] ]

-- of a variable of the new program
abbrev pub new_variable_remarks : Drawing → Drawing → Matching → Verdicts → ℕ → List Remark
new_variable_remarks p q m v b = elim (place_of_new m.variables b) [
  | Some n ↦ variable_remarks p q (pair_at m.variables n) (verdict_at v.variables.items n)
  | None ↦ input_remarks p q m b
]

-- of an instance of it
abbrev pub new_instance_remarks : Drawing → Drawing → Matching → Verdicts → ℕ → List Remark
new_instance_remarks p q m v b = elim (place_of_new m.instances b) [
  | Some n ↦ instance_remarks p q (pair_at m.instances n) (verdict_at v.instances.items n)
  | None ↦ Alone ∷ []
]

-- of an edge of it, unless both programs do the same with it
abbrev pub new_edge_remarks : Matching → Verdicts → ℕ → List Remark
new_edge_remarks m v b = elim (place_of_new m.memories b) [
  | Some n ↦ one_if (not (is_same (verdict_at v.memories.items n))) (Judged (verdict_at v.memories.items n))
  | None ↦ []
]

-- what the old program alone has
abbrev pub is_old_variable : Matching → ℕ → Bool
is_old_variable m a = is_none (place_of_old m.variables a) && is_none (place_of_old m.inputs a)

abbrev pub is_old_instance : Matching → ℕ → Bool
is_old_instance m a = is_none (place_of_old m.instances a)

abbrev pub remarks_of : Drawing → Drawing → Matching → Verdicts → Sort → ℕ → List Remark
remarks_of p q m v NewVariable b = new_variable_remarks p q m v b
remarks_of p q m v NewInstance b = new_instance_remarks p q m v b
remarks_of p q m v OldVariable a = one_if (is_old_variable m a) Alone
remarks_of p q m v OldInstance a = one_if (is_old_instance m a) Alone
remarks_of p q m v NewEdge b = new_edge_remarks m v b

abbrev pub remarks_on : Drawing → Drawing → Matching → Verdicts → Subject → List Remark
remarks_on p q m v s = remarks_of p q m v s.sort s.number

abbrev pub found : Subject → Remark → Finding
found s r = record { subject = s; remark = r }

-- ---- all of it

abbrev pub all_sorts : List Sort
all_sorts = NewVariable ∷ NewInstance ∷ OldVariable ∷ OldInstance ∷ NewEdge ∷ []

-- how many of a sort there are
abbrev pub count_of : Drawing → Drawing → Sort → ℕ
count_of p q NewVariable = length q.decls.vars
count_of p q NewInstance = length q.decls.instances
count_of p q OldVariable = length p.decls.vars
count_of p q OldInstance = length p.decls.instances
count_of p q NewEdge = memories_of q

abbrev pub findings_on : Drawing → Drawing → Matching → Verdicts → Subject → List Finding
findings_on p q m v s = map (found s) (remarks_on p q m v s)

unfoldable pub findings_of : Drawing → Drawing → Matching → Verdicts → Sort → List Finding
findings_of p q m v sort = flat_map (λ n. findings_on p q m v (record { sort = sort; number = n })) (range_with_len 0 (count_of p q sort))

-- Names of the new program in the order of their declarations, then those that the old one alone has, then edges.
unfoldable pub findings : Drawing → Drawing → Matching → Verdicts → List Finding
findings p q m v = flat_map (findings_of p q m v) all_sorts
