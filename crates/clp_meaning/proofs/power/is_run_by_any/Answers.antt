use Rattle.std.proofs.Common.{below_more, arith}
use Rattle.clp_meaning.specs.Sheets.{IsRun}
use Rattle.clp_meaning.proofs.power.is_run_by_any.Goals as goal
use Rattle.clp_meaning.proofs.power.is_run_by_any.Goals.{else-is_running-via-then-is_running+else-fed, else-is_running-via-else-is_running}

-- After the last row there was none.
pub returns : goal.returns
unfolding IsRun
returns c = (λ h. cc, λ run. absurd (c.loop-from.invariant run.0 (omega (arith, run.1, c.loop-from-test.false)) run.2 run.3))

pub loop-from-preserved : goal.loop-from-preserved
loop-from-preserved c =
    below_more _ _ c.loop-from.invariant (λ fed running. elim c.else-is_running.branch [
      | else-is_running-via-then-is_running+else-fed w ↦ let on = w.fed.ensures.1 fed in cc
      | else-is_running-via-else-is_running w ↦ let on = c.is_running.ensures.1 running in cc
    ])
