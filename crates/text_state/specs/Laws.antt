-- Laws of the texts of states, each the contract of a function in module `laws`.
use Rattle.std.specs.Prelude.{◌≡◌, ◌⊎◌, List, Result, Ok, Err}
use Rattle.io_text.specs.Left.{Fields}
use Rattle.io_text.specs.Text.{records_of}
use Rattle.text_state.specs.declared.fault.StateFault.{StateFault}
use Rattle.text_state.specs.declared.fault.StateFault.TheVariants as fault
use Rattle.diagram_program.specs.Program.{Drawing}
use Rattle.scan_cycle.specs.Standing.{Standing}
use Rattle.text_state.specs.ReadState.{Reads}
use Rattle.text_state.specs.StateText.{HasRecords, IsStateOf, state_text}

-- What is written is read back: the reading of the text of a state returns that state, or out of memory.
abbrev pub ReadsBack : Drawing → Type 0
ReadsBack p = (s : Standing) (r : Result Standing StateFault) → IsStateOf p s → Reads p (records_of (state_text p s)) r
    → (r ≡ Ok s) ⊎ (r ≡ Err fault.Memory)

-- Records are those of one state at most, whatever their version.
abbrev pub TellsOneState : Drawing → Type 0
TellsOneState p = (s t : Standing) (rows : List Fields) → IsStateOf p s → IsStateOf p t → HasRecords p s rows → HasRecords p t rows → s ≡ t
