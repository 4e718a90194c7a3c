use Rattle.std.proofs.Common.{◌≡◌, length}
use Rattle.diagram_program.specs.declared.geometry.TheConstants.{RUNGS}
use Rattle.text_warnings.specs.Reaching.{AreReached}
use Rattle.text_warnings.proofs.reaching.reached_below.Given as goal

abbrev pub invariant-loop-rung : goal.invariant-loop-rung
invariant-loop-rung l = AreReached l.program l.rung l.reached × (length l.reached ≡ RUNGS)
