use Rattle.std.proofs.Common.{arith}
use Rattle.xml_document.specs.Markup.{nothing}
use Rattle.xml_document.proofs.Productions.{one_digit}
use Rattle.xml_document.proofs.reference.number_at.Goals as goal

pub loop-b-init : goal.loop-b-init
loop-b-init c = (nothing _, omega arith)

pub loop-b-preserved : goal.loop-b-preserved
loop-b-preserved c =
    (one_digit _ _ _ _ _ _ _ c.loop-b.invariant.0 c.in-Some.ensures.first c.in-Some-to_digit.ensures.value.0 c.in-Some-to_digit.ensures.value.1, omega arith)
