-- What is said of a project that has no program text: a line for each fault, and where it is explained a sentence after each.
use Rattle.std.specs.Prelude.{◌++◌, ◌∷◌, ℕ, Bool, true, false, List, [], codes, decimal}
use Rattle.clp_project.specs.declared.fault.ClpFault.{ClpFault}
use Rattle.clp_project.specs.declared.fault.ClpFault.TheVariants as clp
use Rattle.clp_project.specs.declared.fault.Table.{Table}
use Rattle.clp_project.specs.declared.fault.Table.TheVariants as table
use Rattle.clp_import.specs.declared.importing.ImportFault.{ImportFault}
use Rattle.clp_import.specs.declared.importing.ImportFault.TheVariants as importing
use Rattle.clp_import.specs.declared.refusal.Refusal.{Refusal}
use Rattle.cli_import.specs.Reasons.{reason_line, reason_word}

-- a line that explains, where that is asked for
abbrev pub explained : Bool → List ℕ → List ℕ
explained true line = line
explained false line = []

-- ---- elements that can't be carried over

-- The line of one, and the one that explains it. Rungs are numbered as the project does it; rows and columns are counted from 1.
abbrev pub refusal_text : Bool → Refusal → List ℕ
refusal_text why r =
    codes "fault P6 rung " ++ (decimal r.rung ++ (codes " row " ++ (decimal r.row ++ (codes " column " ++ (decimal r.column ++ (codes " "
    ++ (reason_word r.reason ++ (codes "\n" ++ explained why (reason_line r.reason)))))))))

-- one after the other
abbrev pub refusals_text : Bool → List Refusal → List ℕ
refusals_text why [] = []
refusals_text why (r ∷ rs) = refusal_text why r ++ refusals_text why rs

-- ---- other faults

abbrev pub table_word : Table → List ℕ
table_word table.Timers = codes "timers"
table_word table.Monostables = codes "monostables"
table_word table.IecTimers = codes "timers_iec"
table_word table.Sections = codes "sections"

-- a line that ends with a number, and what explains it
abbrev pub numbered_text : List ℕ → ℕ → List ℕ → List ℕ
numbered_text line number said = line ++ (decimal number ++ (codes "\n" ++ said))

abbrev pub project_explanation : ClpFault → List ℕ
project_explanation clp.NoProject = codes "P1: the file is no ClassicLadder project: it doesn't begin with _FILES_CLASSICLADDER\n"
project_explanation (clp.BadRung rung) = codes "P2: the part of this rung isn't 6 rows of 10 elements with the number of the next rung\n"
project_explanation (clp.BadTable t) = codes "P3: a line of this table isn't the numbers that it should be\n"
project_explanation (clp.NotLadder section) = codes "P4: the section is no ladder diagram\n"
project_explanation (clp.BrokenWay section) = codes "P5: from the first rung of the section the next ones don't lead to its last\n"
project_explanation clp.Memory = codes "X7: out of memory\n"

-- why a text is no project: the line, and what explains it
abbrev pub project_text : Bool → ClpFault → List ℕ
project_text why clp.NoProject = codes "fault P1\n" ++ explained why (project_explanation clp.NoProject)
project_text why (clp.BadRung rung) = numbered_text (codes "fault P2 rung ") rung (explained why (project_explanation (clp.BadRung rung)))
project_text why (clp.BadTable t) = codes "fault P3 " ++ (table_word t ++ (codes "\n" ++ explained why (project_explanation (clp.BadTable t))))
project_text why (clp.NotLadder section) = numbered_text (codes "fault P4 section ") section (explained why (project_explanation (clp.NotLadder section)))
project_text why (clp.BrokenWay section) = numbered_text (codes "fault P5 section ") section (explained why (project_explanation (clp.BrokenWay section)))
project_text why clp.Memory = codes "fault X7\n" ++ explained why (project_explanation clp.Memory)

-- why a project has no text, though each of its elements can be carried over
abbrev pub import_line : ImportFault → List ℕ
import_line importing.TooManyRungs = codes "fault P7 rungs\n"
import_line importing.TooManyVars = codes "fault P7 variables\n"
import_line importing.TooManyBlocks = codes "fault P7 blocks\n"
import_line importing.Memory = codes "fault X7\n"
import_line other = codes "fault P8\n"

abbrev pub import_explanation : ImportFault → List ℕ
import_explanation importing.TooManyRungs = codes "P7: a program has at most 100 rungs\n"
import_explanation importing.TooManyVars = codes "P7: a program has at most 256 variables\n"
import_explanation importing.TooManyBlocks = codes "P7: a program has at most 64 instances of blocks\n"
import_explanation importing.Memory = codes "X7: out of memory\n"
import_explanation other = codes "P8: the text that was made of the project doesn't have what the project has\n"

abbrev pub import_text : Bool → ImportFault → List ℕ
import_text why f = import_line f ++ explained why (import_explanation f)
