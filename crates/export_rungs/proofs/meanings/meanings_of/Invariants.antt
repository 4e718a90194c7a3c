use Rattle.std.specs.List.{All}
use Rattle.export_rungs.specs.Standing.{IsMeaning}
use Rattle.export_rungs.proofs.meanings.meanings_of.Given as goal

abbrev pub invariant-loop-place : goal.invariant-loop-place
invariant-loop-place l =
    All (IsMeaning l.at.scan.program.now l.at.scan.variables l.at.scan.jumps l.at.rung l.at.known.now l.done l.variable l.expression) l.found.items
