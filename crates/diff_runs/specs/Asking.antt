-- What is asked of a program in which two stand side by side.
use Rattle.std.specs.Prelude.{◌∷◌, Bool, [], Option, not}
use Rattle.st_expression.specs.declared.expression.Expression.{Expression}
use Rattle.diagram_program.specs.Program.{Drawing}
use Rattle.scan_cycle.specs.Programs.{diagram_of}
use Rattle.scan_cycle.specs.Standing.{fresh}
use Rattle.causes_query.specs.Assignment.{input_variables}
use Rattle.reach_runs.specs.Asking.{RunQuestion}
use Rattle.reach_runs.specs.declared.timing.Timing.TheVariants.{AnyMoments}
use Rattle.diff_matching.specs.Matching.{Matching}
use Rattle.diff_runs.specs.Showing.{BelongTogether}
use Rattle.diff_runs.specs.declared.symbols.TwoSymbols.{TwoSymbols}

-- A symbol of OLD and one of NEW are in the program, each with the symbol of it that belongs to it.
pub record AreIn (of_old of_new : Matching) (x there : TwoSymbols) : Type 0 where
  pub old : BelongTogether of_old x.old there.old
  pub new : BelongTogether of_new x.new there.new

-- Whether a run from the fresh state, at any moments and with any inputs with which what is assumed is true, leaves the first symbol with this value
-- and the second one with the other.
abbrev pub question : Drawing → TwoSymbols → Bool → Option Expression → RunQuestion
question b there value assumed = record {
  program = b;
  state = fresh b;
  from = 0;
  timing = AnyMoments;
  listed = input_variables (diagram_of b).inputs;
  target = record { symbol = there.old; value = value } ∷ record { symbol = there.new; value = not value } ∷ [];
  assumed = assumed;
}
