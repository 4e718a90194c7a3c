use Rattle.std.proofs.Common.{◌∙◌, below_more, sym}
use Rattle.draw_power.proofs.Flow.{flags_same}
use Rattle.draw_power.proofs.cells.is_fed.Goals as goal

pub loop-row-preserved : goal.loop-row-preserved
loop-row-preserved c = below_more _ _ c.loop-row.invariant (sym c.feeds.ensures ∙ flags_same _ _ c.if-feeds-at.false)
