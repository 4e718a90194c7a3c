-- The drawing of a program in Structured Text.
use Rattle.std.specs.Prelude.{◌≡◌, ℕ, Bool, List, Option, length, map}
use Rattle.diagram_program.specs.Program.{Drawing}
use Rattle.scan_cycle.specs.Rung.{Held}
use Rattle.scan_cycle.specs.Scan.{after_scan}
use Rattle.scan_cycle.specs.Programs.{diagram_of}
use Rattle.diagram_reader.specs.Titled.{IsTitledProgram}
use Rattle.st_integers.specs.declared.value.IntegerValue.{IntegerValue}
use Rattle.st_integers.specs.Values.{HaveOne}
use Rattle.st_program.specs.declared.program.StProgram.{StProgram}
use Rattle.st_program.specs.Symbols.{integer_values}
use Rattle.draw_check.specs.Meaning.{IsDrawingOf}
use Rattle.draw_program.specs.Declarations.{AreDeclared}

-- Of the variables that stand for the values of an INT exactly one is ON, at the start and after each scan of the drawing, whatever the inputs
-- and the moment.
pub record KeepsIntegers (values : List (Option IntegerValue)) (d : Drawing) : Type 0 where
  pub begins : HaveOne values (map (λ v. v.initial) d.decls.vars)
  pub keeps : (now : ℕ) (inputs : List Bool) (g : Held) → length g.values ≡ length d.decls.vars → HaveOne values g.values
      → HaveOne values (after_scan (diagram_of d) now inputs g).values

-- The bytes are a program text that declares what the program declares, and whose scan does what its statements do.
pub record IsDrawn (text : List ℕ) (program : StProgram) (bytes : List ℕ) : Type 0 where
  pub drawing : Drawing
  pub read : IsTitledProgram bytes drawing
  pub declared : AreDeclared text program.variables.items program.instances.items drawing.decls
  pub does : IsDrawingOf (length program.variables.items) program.statements drawing
  pub integers : KeepsIntegers (integer_values program.variables.items) drawing
