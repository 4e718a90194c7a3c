-- What is told of a drawing: of each place whether it has a warning, of each two names whether they are similar, and of all that is declared
-- whether something of it is drawn. Each comes with what shows it, so that there is one answer, whatever tells it.
use Rattle.std.specs.Prelude.{ℕ, List}
use Rattle.diagram_declarations.specs.declared.decls.Symbol.{Symbol}
use Rattle.diagram_program.specs.Program.{Drawing}
use Rattle.text_warnings.specs.Similar.{AreSimilar}
use Rattle.text_warnings.specs.Warned.{IsUnused, IsWarned}
use Rattle.text_warnings.specs.declared.warning.Warning.{Warning}

pub record Told : Type 0 where
  pub warned : (d : Drawing) (n : ℕ) (w : Warning) → Dec (IsWarned d n w)
  pub similar : (a b : List ℕ) → Dec (AreSimilar a b)
  pub unused : (d : Drawing) (s : Symbol) → Dec (IsUnused d s)
