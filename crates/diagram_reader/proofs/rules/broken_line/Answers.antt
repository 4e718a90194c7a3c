use Rattle.std.proofs.Common.{below_more, arith}
use Rattle.std.proofs.lemmas.Bool.{iff_false}
use Rattle.diagram_page.specs.declared.picture.Half.{Half}
use Rattle.diagram_page.specs.declared.picture.Half.TheVariants as half
use Rattle.diagram_reader.proofs.rules.broken_line.Goals as goal

-- both lines of a row
both : (P : Half → Type 0) → (P half.Name → ⊥) → (P half.Wire → ⊥) → (h : Half) → P h → ⊥
both P name wire half.Name = name
both P name wire half.Wire = wire

pub loop-row-preserved : goal.loop-row-preserved
loop-row-preserved c =
    below_more _ _ c.loop-row.invariant
    (both _ (iff_false c.is_broken_along.ensures c.if-is_broken_along.false) (iff_false c.is_broken_along-in-loop-row.ensures c.if-is_broken_along-2.false))

pub returns-clause-none : goal.returns-clause-none
returns-clause-none c = λ r rows h. c.loop-row.invariant r (omega (arith, rows, c.loop-row-test.false)) h
