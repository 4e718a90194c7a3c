use Rattle.std.proofs.Common.{◌≡◌, ◌≤◌, ◌∙◌, ◌+◌, ℕ, Bool, true, false, List, add-one, ap, sym, refl, arith}
use Rattle.std.specs.Prelude.{if◌then◌else◌}
use Rattle.scan_cycle.specs.declared.seen.Mark.{Mark}
use Rattle.text_power.specs.Show.{mark_in}
use Rattle.text_power.specs.Why.{evaluated_above}
use Rattle.text_power.proofs.why.evaluated_above.Goals as goal

none_above : (marks : List Mark) → 0 ≡ evaluated_above marks 0
unfolding evaluated_above
none_above marks = refl

one_more : (marks : List Mark) (above last : ℕ) (m : Mark) → m ≡ mark_in marks above 0 0 → last ≡ evaluated_above marks above
    → (if m.evaluated then above else last) ≡ evaluated_above marks (above + 1)
unfolding evaluated_above
one_more marks above last m e h =
    ap (λ (x : Mark). if x.evaluated then above else last) e
    ∙ ap (λ n. if (mark_in marks above 0 0).evaluated then above else n) h
    ∙ sym (ap (evaluated_above marks) (add-one above))

not_later : (b : Bool) (above last : ℕ) → last ≤ above → (if b then above else last) ≤ above + 1
not_later true above last h = omega arith
not_later false above last h = omega (arith, h)

pub loop-above-init : goal.loop-above-init
loop-above-init c = record { value = none_above c.args.marks.now; few = omega arith }

pub loop-above-preserved : goal.loop-above-preserved
loop-above-preserved c = record {
  value = c.later-last.ensures ∙ one_more c.args.marks.now c.loop-above.above c.loop-above.last c.mark_in.result c.mark_in.ensures c.loop-above.invariant.value;
  few = omega (arith, c.later-last.ensures, not_later c.mark_in.result.evaluated c.loop-above.above c.loop-above.last c.loop-above.invariant.few);
}
