use Rattle.std.proofs.Common.{◌∙◌, ◌+◌, arith}
use Rattle.std.proofs.lemmas.List.{length-set}
use Rattle.text_warnings.specs.Ways.{IsWired}
use Rattle.text_warnings.proofs.Below.{set_more}
use Rattle.text_warnings.proofs.wired.wired_behind.Goals as goal

pub loop-row-preserved : goal.loop-row-preserved
loop-row-preserved c =
    let inv = c.loop-row.invariant in
    let behind = c.loop-row.behind in
    let row = c.loop-row.row in (
      set_more (IsWired c.args.program.now c.args.rung (c.args.column + 1)) behind row c.is_wired.result (omega (arith, inv.1, c.loop-row-test.true)) c.is_wired.ensures inv.0,
      length-set behind row c.is_wired.result ∙ inv.1,
    )
