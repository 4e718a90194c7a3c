use Rattle.std.proofs.Common.{◌≢◌, ◌∙◌, false, arith, below_more, get_or-set_other, get_or-set_same, length-set}
use Rattle.export_power.proofs.cells.ends_before.Goals as goal

pub loop-row-preserved : goal.loop-row-preserved
loop-row-preserved c = record {
  each = below_more _ _
      (λ q less. let other : q ≢ c.loop-row.row = omega arith in get_or-set_other c.loop-row.rows c.loop-row.row q _ false other ∙ c.loop-row.invariant.each q less)
      (get_or-set_same c.loop-row.rows c.loop-row.row _ false (omega (arith, c.loop-row.invariant.long)) ∙ c.feeds.ensures);
  long = length-set c.loop-row.rows c.loop-row.row _ ∙ c.loop-row.invariant.long;
}
