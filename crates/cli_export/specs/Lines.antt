-- What is said of a program that isn't exported: a line, and where it is explained a sentence after it.
use Rattle.std.specs.Prelude.{◌++◌, ℕ, Bool, true, false, List, [], codes}
use Rattle.diagram_declarations.specs.Decls.{Declared, var_name}
use Rattle.export_program.specs.declared.fault.ExportFault.{ExportFault}
use Rattle.export_program.specs.declared.fault.ExportFault.TheVariants as fault

-- the line up to the name that the fault is about, where there is one
abbrev pub fault_lead : ExportFault → List ℕ
fault_lead fault.Memory = codes "fault X7"
fault_lead fault.ProgramName = codes "fault E1"
fault_lead (fault.TwoNumbers variable) = codes "fault E2 "
fault_lead fault.TooLarge = codes "fault E3"
fault_lead fault.NotFaithful = codes "fault E4"

abbrev pub fault_name : Declared → ExportFault → List ℕ
fault_name d (fault.TwoNumbers variable) = var_name d variable
fault_name d other = []

abbrev pub sentence : ExportFault → List ℕ
sentence fault.Memory = codes "X7: out of memory\n"
sentence fault.ProgramName = codes "E1: the program's name is no name of Structured Text, or something is declared by it; --name gives another\n"
sentence (fault.TwoNumbers variable) = codes "E2: the address has two numbers already, so --bits can't write it by byte and bit\n"
sentence fault.TooLarge = codes "E3: the text would have more than 600 statements or 1000 names, or the project more than 4000 elements\n"
sentence fault.NotFaithful = codes "E4: the text isn't found to do what the drawing does, so it isn't written\n"

-- a sentence where it is asked for
abbrev pub explained : Bool → List ℕ → List ℕ
explained true said = said
explained false said = []

abbrev pub fault_text : Bool → Declared → ExportFault → List ℕ
fault_text why d f = fault_lead f ++ (fault_name d f ++ (codes "\n" ++ (explained why (sentence f) ++ [])))
