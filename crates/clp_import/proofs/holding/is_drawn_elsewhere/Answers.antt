use Rattle.std.proofs.Common.{◌≡◌, ◌∙◌, List, ap, arith, below_more, subst, sym}
use Rattle.std.proofs.lemmas.Option.{get_or_from_slice_get, slice_get_within}
use Rattle.clp_project.specs.declared.element.Element.{Element}
use Rattle.clp_project.specs.declared.order.Placed.{Placed}
use Rattle.clp_import.specs.Refusals.{IsDrawn}
use Rattle.clp_import.proofs.holding.is_drawn_elsewhere.Goals as goal
use Rattle.clp_import.proofs.holding.is_drawn_elsewhere.Goals.{then-other-rung, else-other-rung}

pub loop-other-preserved : goal.loop-other-preserved
loop-other-preserved c =
    below_more _ _ c.loop-other.invariant (λ x is i within apart drawn.
    let same : c.as_slice.result.now ≡ x.rung.elements =
    c.as_slice.ensures ∙ ap (λ (y : Placed). y.rung.elements) (get_or_from_slice_get c.args.rungs.now c.loop-other.other x _ is) in
    let here = subst (λ (es : List Element). IsDrawn c.args.reading c.args.block es i) (sym same) drawn in
    elim c.if-other-rung.branch [
      | then-other-rung w ↦ let on = c.is_drawn_beside.ensures.1 (i, within, λ e. apart w.if-other-rung.true (e ∙ w.except-is), here) in cc
      | else-other-rung w ↦ let on = c.is_drawn_beside.ensures.1 (i, within, λ e. omega (arith, within, e, w.except-is), here) in cc
    ])

pub returns : goal.returns
returns c = (
  λ h. cc,
  λ h.
      let within = slice_get_within c.args.rungs.now h.k h.placed h.rung in
      absurd (c.loop-other.invariant h.k (omega (arith, within, c.loop-other-test.false)) h.placed h.rung h.place h.within h.other h.drawn),
)
