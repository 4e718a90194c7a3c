-- The project that a text is, and why a text is none.
use Rattle.std.specs.Prelude.{◌≡◌, ◌⊎◌, ℕ, Bool, true, false, List, [], ◌∷◌, map, codes, Option, Some, None, Result, Ok, Err}
use Rattle.clp_project.specs.declared.fault.Table.{Table}
use Rattle.clp_project.specs.declared.fault.Table.TheVariants as table
use Rattle.clp_project.specs.declared.fault.ClpFault.{ClpFault}
use Rattle.clp_project.specs.declared.fault.ClpFault.TheVariants.{Memory, NoProject, BadRung, BadTable, NotLadder, BrokenWay}
use Rattle.clp_project.specs.declared.order.Placed.{Placed}
use Rattle.clp_project.specs.declared.project.Project.{Project}
use Rattle.clp_project.specs.declared.reading.ReadingOptions.{ReadingOptions}
use Rattle.clp_project.specs.declared.rung.ClpRung.{ClpRung}
use Rattle.clp_project.specs.declared.table.Section.{Section}
use Rattle.clp_project.specs.Format.{is_line, lines_of, part_of}
use Rattle.clp_project.specs.Order.{arranged}
use Rattle.clp_project.specs.Rungs.{read_of, rungs_in}
use Rattle.clp_project.specs.Tables.{expression_of, expressions_in, presets_in, sections_in, symbol_of, symbols_in}

-- the first line of a project
abbrev pub is_headed : List (List ℕ) → Bool
is_headed [] = false
is_headed (l ∷ ls) = is_line (codes "_FILES_CLASSICLADDER") l

abbrev pub sections_head : List ℕ
sections_head = codes "_FILE-sections.csv"

-- how the part of a table begins
abbrev pub head_of : Table → List ℕ
head_of table.Timers = codes "_FILE-timers.csv"
head_of table.Monostables = codes "_FILE-monostables.csv"
head_of table.IecTimers = codes "_FILE-timers_iec.csv"
head_of table.Sections = sections_head

-- The rungs of the parts in the order of the sections are these, or have this fault.
abbrev pub HasRungs : ReadingOptions → List (List ℕ) → Result (List Placed) ClpFault → Type 0
HasRungs reading lines order =
    (rungs : List ClpRung) × (sections : List Section) × (rungs_in lines ≡ Ok (map read_of rungs))
    × (sections_in (part_of sections_head lines) ≡ Some sections) × (arranged reading rungs sections ≡ order)

-- What a project has is what its lines say.
pub record AreOfProject (reading : ReadingOptions) (lines : List (List ℕ)) (p : Project) : Type 0 where
  pub headed : is_headed lines ≡ true
  pub rungs : HasRungs reading lines (Ok p.rungs.items)
  pub timers : presets_in (part_of (head_of table.Timers) lines) ≡ Some p.timers.items
  pub monostables : presets_in (part_of (head_of table.Monostables) lines) ≡ Some p.monostables.items
  pub iec_timers : presets_in (part_of (head_of table.IecTimers) lines) ≡ Some p.iec_timers.items
  pub symbols : map symbol_of p.symbols.items ≡ symbols_in (part_of (codes "_FILE-symbols.csv") lines)
  pub expressions : map expression_of p.expressions.items ≡ expressions_in (part_of (codes "_FILE-arithmetic_expressions.csv") lines)

abbrev pub IsProject : ReadingOptions → List ℕ → Project → Type 0
IsProject reading text p = AreOfProject reading (lines_of text) p

-- ---- faults

-- Out of memory, or a line of the table isn't the numbers that it should be.
abbrev pub IsTableFault : {A : Type 0} → Table → Option (List A) → ClpFault → Type 0
IsTableFault t read fault = (fault ≡ Memory) ⊎ ((fault ≡ BadTable t) × (read ≡ None))

-- The lines have the fault that is named.
abbrev pub IsFaultOf : ReadingOptions → List (List ℕ) → ClpFault → Type 0
IsFaultOf reading lines Memory = Unit {0}
IsFaultOf reading lines NoProject = is_headed lines ≡ false
IsFaultOf reading lines (BadRung number) = rungs_in lines ≡ Err number
IsFaultOf reading lines (BadTable table.Sections) = sections_in (part_of sections_head lines) ≡ None
IsFaultOf reading lines (BadTable other) = presets_in (part_of (head_of other) lines) ≡ None
IsFaultOf reading lines (NotLadder section) = HasRungs reading lines (Err (NotLadder section))
IsFaultOf reading lines (BrokenWay section) = HasRungs reading lines (Err (BrokenWay section))

abbrev pub IsRight : ReadingOptions → List ℕ → ClpFault → Type 0
IsRight reading text fault = IsFaultOf reading (lines_of text) fault
