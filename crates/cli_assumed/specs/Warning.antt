-- The warning of a request of what is assumed and is always true.
use Rattle.std.specs.Prelude.{◌≡◌, ◌⊎◌, ℕ, List, flat_map}
use Rattle.diagram_program.specs.Program.{Drawing}
use Rattle.diagram_reader.specs.Titled.{HasProgram}
use Rattle.assume_always.specs.Always.{AreAlwaysTrue, always_line}
use Rattle.cli_inputs.specs.Reports.{IsReported}
use Rattle.cli_inputs.specs.Setting.{Given, HasProgramFault}
use Rattle.cli_inputs.specs.declared.fault.ToolFault.{ToolFault}
use Rattle.cli_inputs.specs.declared.fault.ToolFault.TheVariants as fault
use Rattle.io_text.specs.Log.{PutsPrefix, WriteLog}

-- A line for each expression that is always true is written: whole, or as far as `Written` says.
abbrev pub Warns : Given → (texts : List (List ℕ)) → (List ℕ → Type 0) → Type 0
Warns g texts Written = (p : Drawing) × (numbers : List ℕ) × HasProgram g.aliases g.program p × AreAlwaysTrue p.decls 1 texts numbers × Written (flat_map always_line numbers)

-- Status 1: the program is refused, or memory ran out, and that was told in place of the lines; or the writer failed at them.
abbrev pub FailsToWarn : Given → (texts : List (List ℕ)) → WriteLog → WriteLog → Type 0
FailsToWarn g texts err err' = ((f : ToolFault) × (HasProgramFault g f ⊎ (f ≡ fault.Memory)) × IsReported g err err' f) ⊎ Warns g texts (PutsPrefix err err')
