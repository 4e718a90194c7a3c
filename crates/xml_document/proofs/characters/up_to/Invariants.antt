use Rattle.std.proofs.Common.{length}
use Rattle.xml_document.proofs.Runs.{SomePasses}
use Rattle.xml_document.proofs.characters.up_to.Given as goal

abbrev pub invariant-loop-rest : goal.invariant-loop-rest
invariant-loop-rest l = SomePasses l.mark l.text l.rest

abbrev pub decreases-loop-rest : goal.decreases-loop-rest
decreases-loop-rest l = length l.rest
