use Rattle.std.proofs.Common.{◌/◌, ◌%◌, ◌<◌, ℕ}
use Rattle.diagram_program.specs.declared.geometry.TheConstants.{COLUMNS}
use Rattle.clp_meaning.specs.Carried.{IsPlaceCarried}
use Rattle.clp_meaning.proofs.check.is_rung_carried.Given as goal

abbrev pub invariant-loop-place : goal.invariant-loop-place
invariant-loop-place l = (p : ℕ) → p < l.place → IsPlaceCarried l.reading l.program l.rungs l.blocks l.rung l.placed (p / COLUMNS) (p % COLUMNS)
