-- How `ladder draw` ends: the drawing of a program in Structured Text is written, or what is said of why there is none.
use Rattle.std.specs.Prelude.{◌≡◌, ◌⊎◌, ℕ, Bool, List}
use Rattle.st_program.specs.Programs.{IsStProgram}
use Rattle.st_program.specs.declared.program.StProgram.{StProgram}
use Rattle.draw_program.specs.Drawn.{IsDrawn}
use Rattle.draw_program.specs.declared.fault.DrawFault.{DrawFault}
use Rattle.cli_inputs.specs.Reports.{IsReported, unread}
use Rattle.cli_inputs.specs.declared.fault.ToolFault.TheVariants as fault
use Rattle.io_text.specs.Log.{PutsAll, PutsPrefix, WriteLog}
use Rattle.cli_draw.specs.Lines.{fault_text}

-- The text is a program, and a drawing of it is written, whole or as far as `Written` says.
pub record Draws (text : List ℕ) (Written : List ℕ → Type 0) : Type 0 where
  pub program : StProgram
  pub is : IsStProgram text program
  pub bytes : List ℕ
  pub drawn : IsDrawn text program bytes
  pub written : Written bytes

-- What is said of a fault was written, or a prefix of it before the writer failed.
abbrev pub IsSaid : Bool → List ℕ → DrawFault → WriteLog → WriteLog → Type 0
IsSaid why text f old new = PutsAll old new (fault_text why text f) ⊎ PutsPrefix old new (fault_text why text f)

-- So it was of some fault.
pub record Says (why : Bool) (text : List ℕ) (old new : WriteLog) : Type 0 where
  pub reason : DrawFault
  pub said : IsSaid why text reason old new

-- Status 1: there is no drawing, and nothing is on `out`; or `out` failed.
abbrev pub BreaksDrawing : Bool → List ℕ → WriteLog → WriteLog → WriteLog → WriteLog → Type 0
BreaksDrawing why text out out' err err' =
    ((out' ≡ out) × Says why text err err') ⊎ (Draws text (PutsPrefix out out') × IsReported (unread why) err err' fault.Write)
