use Rattle.std.proofs.Common.{length}
use Rattle.xml_document.specs.Documents.{Misc}
use Rattle.xml_document.proofs.prolog.behind_misc.Given as goal

abbrev pub invariant-loop-after : goal.invariant-loop-after
invariant-loop-after l = Misc l.text l.rest

abbrev pub decreases-loop-after : goal.decreases-loop-after
decreases-loop-after l = length l.rest
