-- How `ladder export` ends: the program is written in the language that is asked for, or what is said of why it isn't.
use Rattle.std.specs.Prelude.{◌≡◌, ◌⊎◌, ℕ, Bool, List}
use Rattle.diagram_declarations.specs.Decls.{Declared}
use Rattle.diagram_program.specs.Program.{Drawing}
use Rattle.diagram_reader.specs.Titled.{HasProgram}
use Rattle.export_program.specs.Exported.{IsExportedAs, IsRefused, addresses}
use Rattle.export_program.specs.declared.fault.ExportFault.{ExportFault}
use Rattle.export_program.specs.declared.form.AddressForm.{AddressForm}
use Rattle.plc_export.specs.Exported.{IsExportedUnit}
use Rattle.cli_arguments.specs.declared.request.Language.{Language}
use Rattle.cli_arguments.specs.declared.request.Language.TheVariants.{Diagram, Statements}
use Rattle.cli_inputs.specs.Reports.{IsReported}
use Rattle.cli_inputs.specs.Setting.{Given}
use Rattle.cli_inputs.specs.declared.fault.ToolFault.TheVariants as fault
use Rattle.io_text.specs.Log.{PutsAll, PutsPrefix, WriteLog}
use Rattle.cli_export.specs.Lines.{fault_text}

-- The text is the program in this language: statements in Structured Text, or a ladder diagram in PLCopen XML.
abbrev pub IsWrittenAs : Language → AddressForm → (name : List ℕ) → Drawing → (text : List ℕ) → Type 0
IsWrittenAs Statements form name d text = IsExportedAs form name d text
IsWrittenAs Diagram form name d text = IsExportedUnit form name d text

-- The text describes a program, and this program is written in this language, whole or as far as `Written` says.
pub record Exports (g : Given) (language : Language) (name : List ℕ) (bits : Bool) (Written : List ℕ → Type 0) : Type 0 where
  pub program : Drawing
  pub is : HasProgram g.aliases g.program program
  pub text : List ℕ
  pub exported : IsWrittenAs language (addresses bits) name program text
  pub written : Written text

-- What is said of a fault was written, or a prefix of it before the writer failed.
abbrev pub IsSaid : Bool → Declared → ExportFault → WriteLog → WriteLog → Type 0
IsSaid why d f old new = PutsAll old new (fault_text why d f) ⊎ PutsPrefix old new (fault_text why d f)

-- So it was of the reason for which the program isn't exported.
pub record Says (g : Given) (name : List ℕ) (bits : Bool) (old new : WriteLog) : Type 0 where
  pub program : Drawing
  pub is : HasProgram g.aliases g.program program
  pub reason : ExportFault
  pub refused : IsRefused (addresses bits) name program reason
  pub said : IsSaid g.why program.decls reason old new

-- Status 1: the program isn't exported, and nothing is on `out`; or `out` failed.
abbrev pub BreaksExport : Given → Language → (name : List ℕ) → (bits : Bool) → WriteLog → WriteLog → WriteLog → WriteLog → Type 0
BreaksExport g language name bits out out' err err' =
    ((out' ≡ out) × Says g name bits err err') ⊎ (Exports g language name bits (PutsPrefix out out') × IsReported g err err' fault.Write)
