-- A drawing of statements: each scan of it does what a run of the statements does (IEC 61131-3).
use Rattle.std.specs.Prelude.{◌≡◌, ℕ, ◌<◌, ◌≤◌, Bool, false, List, length, slice_index_or}
use Rattle.diagram_program.specs.Program.{Drawing}
use Rattle.scan_cycle.specs.Rung.{Held}
use Rattle.scan_cycle.specs.Scan.{after_scan, given}
use Rattle.scan_cycle.specs.Programs.{diagram_of}
use Rattle.st_statements.specs.declared.statement.StatementList.{StatementList}
use Rattle.st_statements.specs.Run.{run}

-- A state of the drawing, and one of statements with so many variables, have the same: the values of these variables, the memories and the
-- blocks. The drawing may have more variables.
pub record AreSame (d : Drawing) (variables : ℕ) (g h : Held) : Type 0 where
  pub fits : length g.values ≡ length d.decls.vars
  pub long : length h.values ≡ variables
  pub enough : variables ≤ length d.decls.vars
  pub values : (i : ℕ) → i < variables → slice_index_or g.values i false ≡ slice_index_or h.values i false
  pub kept : g.kept ≡ h.kept

-- the inputs take the given values, as a scan begins
abbrev pub with_inputs : Drawing → List Bool → Held → Held
with_inputs d inputs h = record h { values = given (diagram_of d).inputs inputs h.values }

-- From states that have the same, a scan of the drawing and a run of the statements lead to states that have the same, whatever the inputs and
-- the moment.
abbrev pub IsDrawingOf : (variables : ℕ) → StatementList → Drawing → Type 0
IsDrawingOf variables list d = (now : ℕ) (inputs : List Bool) (g h : Held) → AreSame d variables g h
    → AreSame d variables (after_scan (diagram_of d) now inputs g) (run d.decls.instances now list (with_inputs d inputs h)).held
