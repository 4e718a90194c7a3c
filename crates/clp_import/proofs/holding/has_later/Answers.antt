use Rattle.std.proofs.Common.{arith, below_more}
use Rattle.std.proofs.lemmas.Option.{slice_get_within}
use Rattle.clp_import.proofs.holding.has_later.Goals as goal
use Rattle.clp_import.proofs.holding.has_later.Goals.{else-later-rung-via-then-later-rung+else-is_target, else-later-rung-via-else-later-rung}

pub loop-later-preserved : goal.loop-later-preserved
loop-later-preserved c =
    below_more _ _ c.loop-later.invariant (λ after target. elim c.else-later-rung.branch [
      | else-later-rung-via-then-later-rung+else-is_target w ↦ let on = w.is_target.ensures.1 target in cc
      | else-later-rung-via-else-later-rung w ↦ absurd (omega (arith, after, w.if-later-rung.false))
    ])

pub returns : goal.returns
returns c = (
  λ h. cc,
  λ h.
      let within = slice_get_within c.args.rungs.now h.0 h.2.0 h.2.1 in
      absurd (c.loop-later.invariant h.0 (omega (arith, within, c.loop-later-test.false)) h.1 h.2),
)
