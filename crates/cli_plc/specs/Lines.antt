-- What is said of a project in PLCopen XML that has no program text: a line, and where it is explained a sentence after it.
use Rattle.std.specs.Prelude.{◌++◌, ◌&&◌, ℕ, Bool, true, false, if◌then◌else◌, List, [], ◌∷◌, codes, nat_le}
use Rattle.std.specs.List.{list_all}
use Rattle.xml_document.specs.declared.document.Document.{Document}
use Rattle.xml_document.specs.Items.{bytes_at}
use Rattle.st_program.specs.declared.fault.Refusal.TheVariants as refusal
use Rattle.st_program.specs.declared.fault.StFault.{StFault}
use Rattle.st_program.specs.declared.fault.StFault.TheVariants as st
use Rattle.plc_text.specs.declared.fault.PlcFault.TheVariants as plc
use Rattle.plc_import.specs.declared.fault.PlcImportFault.{PlcImportFault}
use Rattle.plc_import.specs.declared.fault.PlcImportFault.TheVariants as import
use Rattle.cli_plc.specs.Reasons.{reason_sentence, reason_word}

-- a sentence where it is asked for
abbrev pub explained : Bool → List ℕ → List ℕ
explained true said = said
explained false said = []

-- a visible character of ASCII
abbrev pub is_visible : ℕ → Bool
is_visible b = nat_le 33 b && nat_le b 126

-- a word as a line shows it: a question mark for none, or for one with anything else
abbrev pub shown : List ℕ → List ℕ
shown [] = codes "?"
shown (b ∷ bs) = if list_all is_visible (b ∷ bs) then b ∷ bs else codes "?"

-- the code of a fault in Structured Text
abbrev pub code_of : StFault → List ℕ
code_of (st.Character at) = codes "T1"
code_of (st.Words refusal.Memory) = codes "X7"
code_of (st.Words (refusal.Due at expected)) = codes "T2"
code_of (st.Words (refusal.Name at)) = codes "T3"
code_of (st.Words (refusal.Type at)) = codes "T4"
code_of (st.Words (refusal.Undrawable at)) = codes "T5"
code_of (st.Words (refusal.Integer at)) = codes "T5"
code_of (st.Words (refusal.Member at)) = codes "T6"
code_of (st.Words (refusal.Input at)) = codes "T7"
code_of (st.Words (refusal.Call at)) = codes "T8"
code_of (st.Words (refusal.TooMany at)) = codes "T9"
code_of (st.Words (refusal.TooDeep at)) = codes "T9"

-- the line up to the name that the fault is about, or the whole line where there is none
abbrev pub fault_lead : PlcImportFault → List ℕ
fault_lead import.Memory = codes "fault X7\n"
fault_lead (import.Unit plc.Memory) = codes "fault X7\n"
fault_lead (import.Unit plc.NoProject) = codes "fault N1\n"
fault_lead (import.Unit plc.NoProgram) = codes "fault N3 none\n"
fault_lead (import.Unit plc.SeveralPrograms) = codes "fault N3 several\n"
fault_lead (import.Unit plc.OtherLanguage) = codes "fault N4\n"
fault_lead (import.Unit plc.TooLarge) = codes "fault N6 elements\n"
fault_lead (import.TooManyRungs count) = codes "fault N6 rungs\n"
fault_lead (import.TooManyVariables count) = codes "fault N6 variables\n"
fault_lead (import.TooManyBlocks count) = codes "fault N6 blocks\n"
fault_lead import.NotFaithful = codes "fault N7\n"
fault_lead import.AlikeNames = codes "fault N5 statements T3\n"
fault_lead (import.Statements f) = codes "fault N5 statements "
fault_lead (import.Unit (plc.Variable name reason)) = codes "fault N5 variable "
fault_lead (import.Unit (plc.Element number reason)) = codes "fault N5 element "

abbrev pub fault_name : Document → PlcImportFault → List ℕ
fault_name d (import.Unit (plc.Variable name reason)) = shown (bytes_at d.bytes.items name)
fault_name d (import.Unit (plc.Element number reason)) = shown (bytes_at d.bytes.items number)
fault_name d (import.Statements f) = code_of f
fault_name d other = []

-- the end of the line behind it
abbrev pub fault_tail : PlcImportFault → List ℕ
fault_tail (import.Unit (plc.Variable name reason)) = reason_word reason
fault_tail (import.Unit (plc.Element number reason)) = reason_word reason
fault_tail (import.Statements f) = codes "\n"
fault_tail other = []

abbrev pub refused_sentence : List ℕ
refused_sentence = codes "N5: in Structured Text the program is refused with this fault, which ladder explain tells\n"

abbrev pub sentence : PlcImportFault → List ℕ
sentence import.Memory = codes "X7: out of memory\n"
sentence (import.Unit plc.Memory) = codes "X7: out of memory\n"
sentence (import.Unit plc.NoProject) = codes "N1: the document is no PLCopen project: its root isn't a project with types and pous\n"
sentence (import.Unit plc.NoProgram) = codes "N3: no pou of the project is a program, or with --pou none has this name\n"
sentence (import.Unit plc.SeveralPrograms) = codes "N3: several pous of the project are programs, and --pou names one; or with it several have this name\n"
sentence (import.Unit plc.OtherLanguage) = codes "N4: the body of the program isn't one ladder diagram\n"
sentence (import.Unit plc.TooLarge) = codes "N6: the diagram has more than 4000 elements, or its expressions are too large\n"
sentence (import.TooManyRungs count) = codes "N6: the drawing would have more than 100 rungs\n"
sentence (import.TooManyVariables count) = codes "N6: the drawing would have more than 256 variables\n"
sentence (import.TooManyBlocks count) = codes "N6: the drawing would have more than 64 instances of blocks\n"
sentence import.NotFaithful = codes "N7: the drawing isn't found to do what the diagram does, so it isn't written\n"
sentence import.AlikeNames = refused_sentence
sentence (import.Statements f) = refused_sentence
sentence (import.Unit (plc.Variable name reason)) = reason_sentence reason
sentence (import.Unit (plc.Element number reason)) = reason_sentence reason

abbrev pub unit_text : (why : Bool) → Document → PlcImportFault → List ℕ
unit_text why d f = fault_lead f ++ (fault_name d f ++ (fault_tail f ++ (explained why (sentence f) ++ [])))
