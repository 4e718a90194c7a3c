use Rattle.diagram_page.proofs.RunLaws.{no_run}
use Rattle.diagram_page.proofs.lines.run_len.Goals as goal

pub returns-in-LineStart-clause-value : goal.returns-in-LineStart-clause-value
returns-in-LineStart-clause-value c = no_run c.args.inside c.args.text.now c.in-LineStart.is
