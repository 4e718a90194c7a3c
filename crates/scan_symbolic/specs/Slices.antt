-- What a caller sees of a slice.
use Rattle.std.specs.Prelude.{ℕ}
use Rattle.diagram_program.specs.Program.{Drawing}

-- It is of a program, for looks at one of its variables.
pub record SliceOf : Type 0 where
  pub program : Drawing
  pub variable : ℕ
