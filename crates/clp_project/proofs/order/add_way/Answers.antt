use Rattle.std.proofs.Common.{◌≡◌, ◌∷◌, ◌++◌, ◌∙◌, [], Option, Some, None, append_assoc, ap, refl, rules, sym}
use Rattle.clp_project.specs.Order.{placed_in}
use Rattle.clp_project.proofs.Ways.{last_rung, next_rung, no_next, no_rung}
use Rattle.clp_project.proofs.order.add_way.Goals as goal

no_value : {A : Type 0} (o : Option A) → ((x : A) → o ≡ Some x → ⊥) → o ≡ None
no_value (Some x) h = absurd (h x refl)
no_value None h = refl

pub returns-in_default : goal.returns-in_default
returns-in_default c =
    no_rung _ c.loop-count.invariant.0 _ _ _ _ c.loop-count._count c.loop-count.number c.loop-count-test.true
    (sym c.rung_with.ensures ∙ no_value _ c.in_default.not-Some) c.loop-count.invariant.2

pub returns-in_default-next : goal.returns-in_default-next
returns-in_default-next c =
    no_next _ c.loop-count.invariant.0 _ _ _ _ c.loop-count._count c.loop-count.number c.in-Some.rung c.loop-count-test.true (sym c.in-Some.ensures)
    (search rules) (no_value _ c.in_default-next.not-Some) c.loop-count.invariant.2

pub returns-then-number-section : goal.returns-then-number-section
returns-then-number-section c =
    let p = placed_in c.args.section.number c.in-Some.rung in (
      c.loop-count.invariant.0 ++ p ∷ [],
      last_rung _ c.loop-count.invariant.0 _ _ _ _ c.loop-count._count c.loop-count.number c.in-Some.rung c.loop-count-test.true (sym c.in-Some.ensures)
          (search rules) c.loop-count.invariant.2,
      c.in_ok-push.ensures.items ∙ ap (λ z. z ++ p ∷ []) c.loop-count.invariant.1 ∙ append_assoc c.args.placed.now.items c.loop-count.invariant.0 (p ∷ []),
    )

pub loop-count-preserved : goal.loop-count-preserved
loop-count-preserved c =
    let p = placed_in c.args.section.number c.in-Some.rung in (
      c.loop-count.invariant.0 ++ p ∷ [],
      c.in_ok-push.ensures.items ∙ ap (λ z. z ++ p ∷ []) c.loop-count.invariant.1 ∙ append_assoc c.args.placed.now.items c.loop-count.invariant.0 (p ∷ []),
      next_rung _ c.loop-count.invariant.0 _ _ _ _ c.loop-count._count c.loop-count.number _ c.in-Some.rung c.loop-count-test.true (sym c.in-Some.ensures)
          (search rules) c.in-Some-next.is c.loop-count.invariant.2,
    )
