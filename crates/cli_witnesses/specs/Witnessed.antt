-- Two programs that were judged, and the states that show each difference.
use Rattle.std.specs.Prelude.{Bool, List}
use Rattle.diagram_program.specs.Program.{Drawing}
use Rattle.diff_matching.specs.Matching.{Matching}
use Rattle.diff_meaning.specs.declared.witness.Witness.{Witness}

-- The programs, what belongs together in them, the witnesses, and whether a fault is explained.
pub record Witnessed : Type 0 where
  pub old : Drawing
  pub new : Drawing
  pub matching : Matching
  pub witnesses : List Witness
  pub why : Bool
