use Rattle.std.proofs.Common.{length}
use Rattle.xml_document.specs.Kinds.{is_of}
use Rattle.xml_document.proofs.Runs.{SomeRun}
use Rattle.xml_document.proofs.characters.run_of.Given as goal

abbrev pub invariant-loop-b : goal.invariant-loop-b
invariant-loop-b l = SomeRun (is_of l.kind) l.text l.rest

abbrev pub decreases-loop-b : goal.decreases-loop-b
decreases-loop-b l = length l.rest
