use Rattle.std.proofs.Common.{length}
use Rattle.diagram_declarations.proofs.Titling.{Takes}
use Rattle.diagram_declarations.proofs.titles.take_aliases.Given as goal

abbrev pub invariant-loop-reading : goal.invariant-loop-reading
invariant-loop-reading l = Takes l.text l.fn.decls l.decls l.rest l.passed.vars l.passed.instances

abbrev pub decreases-loop-reading : goal.decreases-loop-reading
decreases-loop-reading l = length l.rest
