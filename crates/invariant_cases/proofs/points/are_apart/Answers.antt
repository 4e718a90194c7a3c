use Rattle.std.proofs.Common.{◌≡◌, ◌∙◌, false, subst, sym}
use Rattle.std.proofs.lemmas.List.{take_all}
use Rattle.std.proofs.lemmas.List.Elements.{All-more}
use Rattle.std.specs.Prelude.{All}
use Rattle.invariant_cases.specs.Allowing.{are_both_on}
use Rattle.invariant_cases.proofs.points.are_apart.Goals as goal

pub loop-number-preserved : goal.loop-number-preserved
loop-number-preserved c =
    let h = c.args.state.now.held in
    let one = sym c.are_both_on.ensures ∙ c.if-are_both_on.false in
    All-more (λ pair. are_both_on h pair ≡ false) c.args.pairs.now c.loop-number.number _ c.loop-number-test.true c.loop-number.invariant one

pub returns : goal.returns
returns c =
    let h = c.args.state.now.held in
    λ yes. subst (All (λ pair. are_both_on h pair ≡ false)) (take_all c.loop-number.number c.args.pairs.now c.loop-number-test.false) c.loop-number.invariant
