-- What a request is about: the bytes of its texts, and the program and the state that they describe.
use Rattle.std.specs.Prelude.{◌≡◌, ◌⊎◌, ℕ, Bool, true, List, [], Option, None, Some, option_map, unwrap_or, vec_items}
use Rattle.diagram_declarations.specs.Titles.{HasTakenAlias}
use Rattle.diagram_program.specs.Program.{Drawing}
use Rattle.diagram_reader.specs.Reading.{IsMemory, IsProgram, IsRight}
use Rattle.diagram_reader.specs.Titled.{HasProgram}
use Rattle.io_text.specs.Left.{Fields}
use Rattle.io_text.specs.Text.{records_of}
use Rattle.scan_cycle.specs.Standing.{Standing, fresh}
use Rattle.text_state.specs.declared.fault.StateFault.TheVariants as state
use Rattle.text_state.specs.ReadState.{IsFirstBad}
use Rattle.text_state.specs.StateText.{HasRecords, IsStateOf}
use Rattle.cli_inputs.specs.declared.fault.ToolFault.{ToolFault}
use Rattle.cli_inputs.specs.declared.fault.ToolFault.TheVariants as fault
use Rattle.cli_inputs.specs.declared.texts.Texts.{Texts}

-- the bytes of the texts, a state, a stimulus or an expected trace where there is one; whether a fault is explained, and whether aliases are printed
pub record Given : Type 0 where
  pub program : List ℕ
  pub state : Option (List ℕ)
  pub stimulus : Option (List ℕ)
  pub trace : Option (List ℕ)
  pub why : Bool
  pub aliases : Bool

abbrev pub given_by : Texts → Given
given_by t = record {
  program = t.program.items;
  state = option_map vec_items t.state;
  stimulus = option_map vec_items t.stimulus;
  trace = option_map vec_items t.trace;
  why = t.why;
  aliases = t.aliases;
}

-- The state that a text describes, or the fresh one where there is no text.
abbrev pub HasState : Drawing → Option (List ℕ) → Standing → Type 0
HasState p state s = elim state [ Some text ↦ IsStateOf p s × HasRecords p s (records_of text) | None ↦ s ≡ fresh p ]

-- The texts describe this program and this state of it.
pub record IsSet (g : Given) (p : Drawing) (s : Standing) : Type 0 where
  pub drawn : HasProgram g.aliases g.program p
  pub stored : HasState p g.state s

-- the records of the stimulus; none where there is no text
abbrev pub stimulus_records : Given → List Fields
stimulus_records g = records_of (unwrap_or g.stimulus [])

-- the records of the trace that is expected, likewise
abbrev pub expected_records : Given → List Fields
expected_records g = records_of (unwrap_or g.trace [])

-- ---- faults of the program text, and then of the state text

-- The text is no program, and breaks the rule that is named; being out of memory has no reason in the text. Or it is one, and an alias of it
-- is taken, where aliases are printed.
abbrev pub HasProgramFault : Given → ToolFault → Type 0
HasProgramFault g (fault.Grid f) = (¬ (IsMemory f) → (p : Drawing) → IsProgram g.program p → ⊥) × IsRight g.program f
HasProgramFault g (fault.Title f) = (g.aliases ≡ true) × (p : Drawing) × IsProgram g.program p × HasTakenAlias g.program p.decls f.line
HasProgramFault g other = ⊥

-- The record of this number is the first bad one of the state text, or a state was out of memory.
abbrev pub HasStateFault : Drawing → Option (List ℕ) → ToolFault → Type 0
HasStateFault p (Some text) (fault.State (state.BadRow row)) = IsFirstBad p (records_of text) row
HasStateFault p (Some text) (fault.State state.Memory) = Unit {0}
HasStateFault p None fault.Memory = Unit {0}
HasStateFault p text other = ⊥

-- A fault of the program text, or of the state text of a good program.
abbrev pub HasSettingFault : Given → ToolFault → Type 0
HasSettingFault g f = HasProgramFault g f ⊎ ((p : Drawing) × HasProgram g.aliases g.program p × HasStateFault p g.state f)
