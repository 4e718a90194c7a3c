use Rattle.std.proofs.Common.{◌∙◌, arith}
use Rattle.std.proofs.lemmas.List.{length-set}
use Rattle.text_warnings.specs.Ways.{IsReached}
use Rattle.text_warnings.proofs.Below.{set_more}
use Rattle.text_warnings.proofs.reaching.reached_below.Goals as goal

pub loop-rung-preserved : goal.loop-rung-preserved
loop-rung-preserved c =
    let inv = c.loop-rung.invariant in
    let reached = c.loop-rung.reached in
    let n = c.loop-rung.rung in (
      set_more (IsReached c.args.program.now) reached n c.comes_to.result (omega (arith, inv.1, c.requires.few, c.loop-rung-test.true)) c.comes_to.ensures inv.0,
      length-set reached n c.comes_to.result ∙ inv.1,
    )
