-- What is said, after the line of a fault, of a word of a request or of its texts that names nothing: of the first one alone.
use Rattle.std.specs.Prelude.{◌≡◌, ◌⊎◌, ◌+◌, ◌∷◌, ℕ, Bool, true, false, List, [], Option, None, Some, Result, Ok, Err, bytes_eq, drop, find, if◌then◌else◌, option_map, slice_get, slice_index_or}
use Rattle.std.specs.Option.{option_or}
use Rattle.diagram_declarations.specs.declared.decls.Symbol.TheVariants as symbol
use Rattle.diagram_declarations.specs.Decls.{Declared, is_input_at, names_of}
use Rattle.diagram_program.specs.Program.{Drawing}
use Rattle.diagram_reader.specs.Reading.{IsMemory}
use Rattle.diagram_reader.specs.Titled.{HasProgram}
use Rattle.io_text.specs.Left.{Fields}
use Rattle.io_text.specs.Log.{PutsAll, PutsPrefix, WriteLog}
use Rattle.io_text.specs.Text.{records_of}
use Rattle.text_names.specs.Nearest.{nearest, no_input_text, other_text, told_name, unknown_text}
use Rattle.text_names.specs.declared.meant.Wanted.{Wanted}
use Rattle.text_names.specs.declared.meant.Wanted.TheVariants as wanted
use Rattle.cli_arguments.specs.declared.request.Request.{Request}
use Rattle.cli_inputs.specs.declared.fault.ToolFault.{ToolFault}
use Rattle.cli_inputs.specs.declared.fault.ToolFault.TheVariants as fault
use Rattle.cli_inputs.specs.Setting.{Given, HasProgramFault}
use Rattle.cli_names.specs.declared.fault.AdviceFault.{AdviceFault}
use Rattle.cli_names.specs.declared.fault.AdviceFault.TheVariants as advice_fault
use Rattle.cli_names.specs.Words.{declared_as, is_unknown, words_of}

-- A name isn't declared; or it is that of no input; or the record with this number has another name than the program there.
pub data Advice : Type 0 where
  Unknown : Wanted → List ℕ → Advice
  NoInput : List ℕ → Advice
  Other : ℕ → List ℕ → List ℕ → Advice

abbrev pub word_advice : Declared → Request → Option Advice
word_advice d r = option_map (λ w. Unknown w.wanted w.text) (find (is_unknown d) (words_of r))

-- on the second field of a record, where the program has this name
abbrev pub record_advice : ℕ → List ℕ → Option (List ℕ) → Option Advice
record_advice number name None = None
record_advice number name (Some found) = if bytes_eq found name then None else Some (Other number found name)

-- on the first of these records, counted from a number on, that has another name than the program there
abbrev pub records_advice : ℕ → List (List ℕ) → List Fields → Option Advice
records_advice number (name ∷ names) (r ∷ rs) = option_or (record_advice number name (slice_get r 1)) (records_advice (number + 1) names rs)
records_advice number names records = None

-- Two records come before those that have names.
abbrev pub state_advice : Declared → Option (List ℕ) → Option Advice
state_advice d None = None
state_advice d (Some text) = records_advice 3 (names_of d) (drop 2 (records_of text))

-- on a name in the header of a stimulus, if it is that of no input
abbrev pub name_advice : Declared → List ℕ → Option Advice
name_advice d name = elim (declared_as d name) [
  | Some (symbol.Var n) ↦ if is_input_at (slice_get d.vars n) then None else Some (NoInput name)
  | Some (symbol.Instance n) ↦ Some (NoInput name)
  | None ↦ Some (Unknown wanted.Input name)
]

-- on the first of these names
abbrev pub names_advice : Declared → List (List ℕ) → Option Advice
names_advice d [] = None
names_advice d (name ∷ names) = option_or (name_advice d name) (names_advice d names)

-- The first field of the header is no name.
abbrev pub stimulus_advice : Declared → Option (List ℕ) → Option Advice
stimulus_advice d None = None
stimulus_advice d (Some text) = names_advice d (drop 1 (slice_index_or (records_of text) 0 []))

abbrev pub advice_on : Declared → Request → Given → Option Advice
advice_on d r g = option_or (state_advice d g.state) (option_or (word_advice d r) (stimulus_advice d g.stimulus))

-- ---- what is written

-- Its line was written; of a name that isn't declared without the nearest one, where memory ran out.
abbrev pub Says : Declared → Advice → (List ℕ → Type 0) → Type 0
Says d (Unknown wanted name) Wrote = Wrote (unknown_text name (told_name d (nearest d wanted name))) ⊎ Wrote (unknown_text name None)
Says d (NoInput name) Wrote = Wrote (no_input_text name)
Says d (Other number found name) Wrote = Wrote (other_text number found name)

-- The advice was written, or there is none; or the writer failed in it; or memory ran out before, and nothing was written.
abbrev pub Tells : Declared → Option Advice → WriteLog → WriteLog → Result Bool AdviceFault → Type 0
Tells d (Some a) old new (Ok true) = Says d a (PutsAll old new)
Tells d (Some a) old new (Err advice_fault.Write) = Says d a (PutsPrefix old new)
Tells d None old new (Ok false) = new ≡ old
Tells d a old new (Err advice_fault.Memory) = new ≡ old
Tells d a old new other = ⊥

abbrev pub IsMemoryFault : ToolFault → Type 0
IsMemoryFault (fault.Grid f) = IsMemory f
IsMemoryFault other = ⊥

-- The program text has a fault, other than that memory ran out.
abbrev pub IsFaulty : Given → Type 0
IsFaulty g = (f : ToolFault) × HasProgramFault g f × ¬ (IsMemoryFault f)

-- The advice on the program that the texts describe was told. Where the program text has a fault, nothing was written.
abbrev pub Advises : Given → Request → WriteLog → WriteLog → Result Bool AdviceFault → Type 0
Advises g r old new (Err advice_fault.Memory) = new ≡ old
Advises g r old new result =
    ((p : Drawing) × HasProgram g.aliases g.program p × Tells p.decls (advice_on p.decls r g) old new result)
    ⊎ (IsFaulty g × (result ≡ Ok false) × (new ≡ old))
