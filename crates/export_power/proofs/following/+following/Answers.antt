use Rattle.std.proofs.Common.{arith, refl}
use Rattle.export_power.proofs.Back.{from_both, from_same}
use Rattle.export_power.proofs.Trees.{and_deeper, and_is, constant_on, in_series, led_to, not_is, operand_is, or_deeper, or_is}
use Rattle.export_power.proofs.following.+following.Goals as goal

pub before-before-requires : goal.before-before-requires
before-before-requires t c = (omega (arith, c.decreases, and_deeper _ _ _ _ _ _ _ c.deref-in-And.ensures c.deref-in-And-2.ensures c.in-And.is), c.requires)

pub before-before-requires-in-And : goal.before-before-requires-in-And
before-before-requires-in-And t c = (omega (arith, c.decreases, and_deeper _ _ _ _ _ _ _ c.deref-in-And.ensures c.deref-in-And-2.ensures c.in-And.is), c.requires)

pub before-before_either-requires : goal.before-before_either-requires
before-before_either-requires t c = (omega (arith, c.decreases, or_deeper _ _ _ _ _ _ _ c.deref-in-Or.ensures c.deref-in-Or-2.ensures c.in-Or.is), c.requires)

pub before-returns-in-Constant : goal.before-returns-in-Constant
before-returns-in-Constant t c = constant_on _ _ _ _ _ _ c.in-Constant.is c.then_some.ensures c.unwired-near.ensures

pub before-returns-in-Operand : goal.before-returns-in-Operand
before-returns-in-Operand t c = led_to _ _ _ _ _ _ (operand_is _ _ c.in-Operand.is) c.unwired-near.ensures c.before_operand.ensures

pub before-returns-in-Not : goal.before-returns-in-Not
before-returns-in-Not t c = led_to _ _ _ _ _ _ (not_is _ _ _ _ c.in-Not.is c.deref.ensures) c.unwired-near.ensures c.before_inverse.ensures

pub before-returns-in_ok-before-in-And : goal.before-returns-in_ok-before-in-And
before-returns-in_ok-before-in-And t c =
    in_series _ _ _ _ _ _ _ _ (and_is _ _ _ _ _ _ _ c.deref-in-And.ensures c.deref-in-And-2.ensures c.in-And.is)
    c.unwired-near.ensures c.in_ok-before-in-And.ensures c.before-in-And-2.ensures

pub before-returns-in-Or : goal.before-returns-in-Or
before-returns-in-Or t c =
    led_to _ _ _ _ _ _ (or_is _ _ _ _ _ _ _ c.deref-in-Or.ensures c.deref-in-Or-2.ensures c.in-Or.is) c.unwired-near.ensures c.before_either.ensures

pub before_both-returns-then-is_same-clause-lower : goal.before_both-returns-then-is_same-clause-lower
before_both-returns-then-is_same-clause-lower t c = from_same _ _ _ _ _ (c.if-is_same.ensures refl) c.in_ok-second.ensures

pub before_either-returns-in-Some : goal.before_either-returns-in-Some
before_either-returns-in-Some t c = from_both _ _ _ _ _ _ c.split-parts.ensures c.in-Some.ensures.upper c.in-Some.ensures.lower
