use Rattle.std.proofs.Common.{◌∙◌, below_more, arith}
use Rattle.diagram_reader.proofs.DrawingLaws.{labels_more}
use Rattle.diagram_reader.proofs.page_check.read_parts.Goals as goal

pub loop-rung-preserved : goal.loop-rung-preserved
loop-rung-preserved c = record {
  labels = c.in_ok-push-in-Ok.ensures.items ∙ labels_more _ _ _ _ _ c.loop-rung-test.true c.loop-rung.invariant.labels c.in-Ok.ensures.label;
  kept = below_more _ _ c.loop-rung.invariant.kept c.in-Ok.ensures.kept;
  few = omega (arith, c.in-Ok.ensures.few);
}
