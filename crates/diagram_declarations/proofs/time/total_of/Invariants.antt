use Rattle.std.proofs.Common.{◌≤◌, ◌^◌, length}
use Rattle.diagram_declarations.specs.ReadTimes.{total_of}
use Rattle.diagram_declarations.proofs.Durations.{Stands}
use Rattle.diagram_declarations.proofs.time.total_of.Given as goal

abbrev pub invariant-loop-rest : goal.invariant-loop-rest
invariant-loop-rest l = record { small : l.total ≤ 2 ^ 32; stands : Stands l.last l.total l.rest (total_of l.text) }

abbrev pub decreases-loop-rest : goal.decreases-loop-rest
decreases-loop-rest l = length l.rest
