use Rattle.std.proofs.Common.{◌≡◌, ◌∙◌, ◌<◌, ◌+◌, ◌-◌, ◌==◌, ℕ, zero, suc, List, Some, true, false, arith, ap, refl, sym}
use Rattle.std.proofs.lemmas.Bool.{eq-eqb, ne_eqb}
use Rattle.text_reasons.specs.Forms.{apart, form_text, near_from}
use Rattle.text_reasons.proofs.forms.near_from.Goals as goal

hit : (cell : List ℕ) (distance n left : ℕ) → 0 < left → apart cell (form_text n) ≡ distance → near_from cell distance n left ≡ Some n
hit cell distance n zero there same = absurd (omega (arith, there))
hit cell distance n (suc left) there same =
    let is : (apart cell (form_text n) == distance) ≡ true = eq-eqb (apart cell (form_text n)) distance same in
    rw is refl

miss : (cell : List ℕ) (distance n left : ℕ) → 0 < left → (apart cell (form_text n) ≡ distance → ⊥)
    → near_from cell distance n left ≡ near_from cell distance (n + 1) (left - 1)
miss cell distance n zero there other = absurd (omega (arith, there))
miss cell distance n (suc left) there other =
    let is : (apart cell (form_text n) == distance) ≡ false = ne_eqb (apart cell (form_text n)) distance other in
    let one : suc left - 1 ≡ left = omega arith in
    rw (is, one) refl

pub returns-then-apart-distance-clause-value : goal.returns-then-apart-distance-clause-value
returns-then-apart-distance-clause-value c =
    let cell = c.args.cell.now in
    let here : c.apart.result ≡ apart cell (form_text c.loop-left.n) = c.apart.ensures ∙ ap (λ f. apart cell f) c.form_text.ensures in
    sym (hit cell c.args.distance c.loop-left.n c.loop-left.left c.loop-left-test.true (sym here ∙ c.if-apart-distance.true)) ∙ c.loop-left.invariant.0

pub loop-left-preserved : goal.loop-left-preserved
loop-left-preserved c =
    let cell = c.args.cell.now in
    let here : c.apart.result ≡ apart cell (form_text c.loop-left.n) = c.apart.ensures ∙ ap (λ f. apart cell f) c.form_text.ensures in
    let other = λ (e : apart cell (form_text c.loop-left.n) ≡ c.args.distance). c.if-apart-distance.false (here ∙ e) in (
      sym (miss cell c.args.distance c.loop-left.n c.loop-left.left c.loop-left-test.true other) ∙ c.loop-left.invariant.0,
      omega (arith, c.loop-left.invariant.1, c.loop-left-test.true),
    )
