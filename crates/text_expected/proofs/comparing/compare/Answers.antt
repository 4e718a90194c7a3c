use Rattle.std.proofs.Common.{◌∙◌, subst, sym}
use Rattle.io_text.specs.Log.{PutsAll, PutsPrefix}
use Rattle.text_expected.specs.Expected.{difference_text}
use Rattle.text_expected.specs.Stepping.{Steps}
use Rattle.text_expected.proofs.Places.{at_difference, at_last, at_more, told}
use Rattle.text_expected.proofs.comparing.compare.Goals as goal

pub returns-in-Ended : goal.returns-in-Ended
returns-in-Ended g c = λ xs ys left rest. (
  at_last xs ys c.loop-number.number c.loop-number.both c.read_both.new.both (c.loop-number.invariant.2 xs ys left rest)
      (λ a b l r. subst (λ s. Steps s a b c.read_both.new.both) c.in-Ended.is (c.in-Ok.ensures.steps a b l r)),
  c.loop-number.invariant.1,
)

pub returns-in_default-put_difference : goal.returns-in_default-put_difference
returns-in_default-put_difference g c = λ xs ys left rest.
    let d = at_difference xs ys c.loop-number.number c.loop-number.both c.read_both.new.both c.in-Differs.one c.in-Differs.other (c.loop-number.invariant.2 xs ys left rest)
    (λ a b l r. subst (λ s. Steps s a b c.read_both.new.both) c.in-Differs.is (c.in-Ok.ensures.steps a b l r)) in (
      c.loop-number.number,
      d.0,
      subst (λ l. PutsPrefix l (g.W.Sink.log c.put_difference.new.writer) (difference_text xs ys c.loop-number.number)) c.loop-number.invariant.1
          (told c.loop-number.number _ _ _ _ (PutsPrefix (g.W.Sink.log c.loop-number.writer) (g.W.Sink.log c.put_difference.new.writer))
          (c.record-expected.ensures ∙ sym d.1) (c.record-found.ensures ∙ sym d.2) c.in_default-put_difference.ensures),
    )

pub returns-in-Differs : goal.returns-in-Differs
returns-in-Differs g c = λ xs ys left rest.
    let d = at_difference xs ys c.loop-number.number c.loop-number.both c.read_both.new.both c.in-Differs.one c.in-Differs.other (c.loop-number.invariant.2 xs ys left rest)
    (λ a b l r. subst (λ s. Steps s a b c.read_both.new.both) c.in-Differs.is (c.in-Ok.ensures.steps a b l r)) in (
      c.loop-number.number,
      d.0,
      subst (λ l. PutsAll l (g.W.Sink.log c.put_difference.new.writer) (difference_text xs ys c.loop-number.number)) c.loop-number.invariant.1
          (told c.loop-number.number _ _ _ _ (PutsAll (g.W.Sink.log c.loop-number.writer) (g.W.Sink.log c.put_difference.new.writer))
          (c.record-expected.ensures ∙ sym d.1) (c.record-found.ensures ∙ sym d.2) c.in-Ok-put_difference.ensures),
    )

pub loop-number-preserved : goal.loop-number-preserved
loop-number-preserved g c = (
  c.in-Ok.ensures.plain,
  c.loop-number.invariant.1,
  λ xs ys left rest.
      at_more xs ys c.loop-number.number c.loop-number.both c.read_both.new.both (c.loop-number.invariant.2 xs ys left rest)
      (λ a b l r. subst (λ s. Steps s a b c.read_both.new.both) c.in-Same.is (c.in-Ok.ensures.steps a b l r)),
)
