use Rattle.std.proofs.Common.{length}
use Rattle.std.specs.List.{AllByRecursion}
use Rattle.diagram_reader.specs.Checks.{IsKept}
use Rattle.diagram_page.specs.Seen.{seen}
use Rattle.diagram_reader.proofs.rules.first_broken.Given as goal

abbrev pub invariant-loop-rules : goal.invariant-loop-rules
invariant-loop-rules l = AllByRecursion (IsKept (seen l.page) l.rung) l.rules → AllByRecursion (IsKept (seen l.page) l.rung) l.initial.rules

abbrev pub decreases-loop-rules : goal.decreases-loop-rules
decreases-loop-rules l = length l.rules
