use Rattle.std.proofs.Common.{length, ◌≤◌}
use Rattle.xml_document.specs.Markup.{Digits}
use Rattle.xml_document.proofs.reference.number_at.Given as goal

abbrev pub invariant-loop-b : goal.invariant-loop-b
invariant-loop-b l = Digits l.base l.text l.rest l.number × (l.number ≤ 0x10FFFF)

abbrev pub decreases-loop-b : goal.decreases-loop-b
decreases-loop-b l = length l.rest
