use Rattle.std.proofs.Common.{refl}
use Rattle.text_report.specs.Report.{escaped}
use Rattle.text_report.proofs.Adding.{adds_more, adds_none}
use Rattle.text_report.proofs.escaping.add_text.Goals as goal

pub loop-b-init : goal.loop-b-init
loop-b-init c = adds_none _

pub loop-b-preserved : goal.loop-b-preserved
loop-b-preserved c = adds_more (escaped c.args.form) c.args.text.now c.loop-b.b-index _ _ _ _ _ c.loop-b-test.true refl c.loop-b.invariant c.add_escaped.ensures
