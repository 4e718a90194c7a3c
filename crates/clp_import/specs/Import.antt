-- The program text of a project, and why it has none.
use Rattle.std.specs.Prelude.{ℕ, ◌<◌, List, length, Result, Ok, Err}
use Rattle.diagram_program.specs.declared.geometry.TheConstants.{RUNGS}
use Rattle.diagram_program.specs.Program.{Drawing}
use Rattle.diagram_reader.specs.Reading.{IsProgram}
use Rattle.clp_project.specs.declared.project.Project.{Project}
use Rattle.clp_project.specs.declared.reading.ReadingOptions.{ReadingOptions}
use Rattle.clp_meaning.specs.declared.meaning.BlockRef.{BlockRef}
use Rattle.clp_drawing.specs.declared.drafting.DraftFault.{DraftFault}
use Rattle.clp_drawing.specs.declared.drafting.DraftFault.TheVariants as draft
use Rattle.clp_drawing.specs.declared.drafting.Drafted.{Drafted}
use Rattle.clp_import.specs.declared.refusal.Refusal.{Refusal}
use Rattle.clp_import.specs.declared.importing.ImportFault.{ImportFault}
use Rattle.clp_import.specs.declared.importing.ImportFault.TheVariants as fault
use Rattle.clp_meaning.specs.Carried.{IsCarriedBy, IsCarriedOver}
use Rattle.clp_import.specs.Refusals.{IsThere}

-- The text is a program that has what the project has, as it is read.
abbrev pub HasText : ReadingOptions → Project → List ℕ → Type 0
HasText reading p text = (d : Drawing) × IsProgram text d × IsCarriedOver reading p d

-- ---- faults

-- The text is such a program with these blocks, in the order in which they are declared.
abbrev pub HasTextBy : ReadingOptions → Project → List BlockRef → List ℕ → Type 0
HasTextBy reading p blocks text = (d : Drawing) × IsProgram text d × IsCarriedBy reading p blocks d

-- What was drawn isn't the project: no program, or one that has something else.
abbrev pub IsWrong : ReadingOptions → Project → Drafted → Type 0
IsWrong reading p d = ¬ (HasTextBy reading p d.blocks.items d.text.items)

-- Some element is there that can't be carried over; or there are too many rungs; or what draws the text answered that there are too
-- many variables or blocks; or it drew one, and that isn't the project. Memory may run out at any time.
abbrev pub IsFault : (Result Drafted DraftFault → Type 0) → ReadingOptions → Project → ImportFault → Type 0
IsFault Answers reading p fault.Refused = (f : Refusal) × IsThere reading p f
IsFault Answers reading p fault.TooManyRungs = RUNGS < length p.rungs.items
IsFault Answers reading p fault.TooManyVars = Answers (Err draft.TooManyVars)
IsFault Answers reading p fault.TooManyBlocks = Answers (Err draft.TooManyBlocks)
IsFault Answers reading p fault.NotFaithful = (d : Drafted) × Answers (Ok d) × IsWrong reading p d
IsFault Answers reading p fault.Memory = Unit {0}

-- The same, whatever draws the text.
abbrev pub IsFaultOfAny : ReadingOptions → Project → ImportFault → Type 0
IsFaultOfAny reading p f = IsFault (λ answer. Unit {0}) reading p f

-- Private: those that are found before anything is drawn.
abbrev pub IsEarly : ReadingOptions → Project → ImportFault → Type 0
IsEarly reading p fault.Refused = (f : Refusal) × IsThere reading p f
IsEarly reading p fault.TooManyRungs = RUNGS < length p.rungs.items
IsEarly reading p other = ⊥

-- Private: those of the draft.
abbrev pub fault_of : DraftFault → ImportFault
fault_of draft.Memory = fault.Memory
fault_of draft.TooManyVars = fault.TooManyVars
fault_of draft.TooManyBlocks = fault.TooManyBlocks

-- Private: those of the text that was drawn.
abbrev pub IsOfText : ReadingOptions → Project → List BlockRef → List ℕ → ImportFault → Type 0
IsOfText reading p blocks text fault.Memory = Unit {0}
IsOfText reading p blocks text fault.NotFaithful = ¬ (HasTextBy reading p blocks text)
IsOfText reading p blocks text other = ⊥
