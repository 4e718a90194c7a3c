use Rattle.std.proofs.Common.{refl, ◌≡◌, inl, inr, ⊎_elim, arith}
use Rattle.std.proofs.lemmas.Bool.{eq-eqb, eqb-true}
use Rattle.text_warnings.specs.Below.{SomeBelow}
use Rattle.text_warnings.specs.Decided.{way_step}
use Rattle.text_warnings.specs.Reaching.{ComesFrom}
use Rattle.text_warnings.proofs.reaching.comes_to.Goals as goal

pub returns-then-follows : goal.returns-then-follows
returns-then-follows c =
    let reached = (c.requires.reached c.loop-before.before c.loop-before-test.true).0 c.if-reached-before.true in
    (λ h. (way_step c.args.program.now c.args.rung).0 (inr (c.loop-before.before, c.loop-before-test.true, (reached, c.follows.ensures.0 c.if-follows.true))), λ h. refl)

pub returns : goal.returns
returns c =
    let step = way_step c.args.program.now c.args.rung in
    let end : c.loop-before.before ≡ c.args.rung = omega (arith, c.loop-before-test.false, c.loop-before.auto.before-end) in
    let none : SomeBelow c.args.rung (ComesFrom c.args.program.now c.args.rung) → ⊥ = rw end at c.loop-before.invariant in
    (λ h. step.0 (inl (eqb-true _ _ h)), λ h. ⊎_elim (λ start. eq-eqb _ _ start) (λ some. absurd (none some)) (step.1 h))
