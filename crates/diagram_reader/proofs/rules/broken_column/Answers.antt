use Rattle.std.proofs.Common.{below_more}
use Rattle.std.proofs.lemmas.Bool.{iff_false}
use Rattle.diagram_reader.proofs.rules.broken_column.Goals as goal

pub loop-column-preserved : goal.loop-column-preserved
loop-column-preserved c = below_more _ _ c.loop-column.invariant (iff_false c.breaks.ensures c.if-breaks.false)
