-- What is assumed of the inputs of two programs in each scan of their runs.
use Rattle.std.specs.Prelude.{List, Option, None, map, option_map}
use Rattle.st_expression.specs.declared.expression.Expression.{Expression}
use Rattle.diagram_program.specs.Program.{Drawing}
use Rattle.scan_cycle.specs.Standing.{fresh}
use Rattle.invariant_cases.specs.Assuming.{Assumed}
use Rattle.invariant_sets.specs.Invariants.{AreAllowed}
use Rattle.diff_matching.specs.Runs.{TwoScans, new_scan, old_scan}
use Rattle.diff_runs.specs.Pulling.{inputs_of}
use Rattle.diff_runs.specs.declared.assuming.TwoAssumed.{TwoAssumed}

-- Of each program an expression over its inputs, where something is assumed. An operand of it is an input, by its place in order of declaration.
pub record Assumptions : Type 0 where
  pub old : Option Expression
  pub new : Option Expression

abbrev pub nothing : Assumptions
nothing = record { old = None; new = None }

abbrev pub assumptions : TwoAssumed → Assumptions
assumptions a = record { old = option_map (λ e. e.now) a.old; new = option_map (λ e. e.now) a.new }

-- an expression over the inputs of this program
abbrev pub over_inputs : Drawing → Option Expression → Assumed
over_inputs p expression = record { inputs = inputs_of p; expression = expression }

-- In each scan from the fresh states on, what is assumed of each program is true of its inputs as they are given.
pub record AreAssumed (p q : Drawing) (a : Assumptions) (scans : List TwoScans) : Type 0 where
  pub old : AreAllowed p (over_inputs p a.old) (map old_scan scans) (fresh p).held
  pub new : AreAllowed q (over_inputs q a.new) (map new_scan scans) (fresh q).held
