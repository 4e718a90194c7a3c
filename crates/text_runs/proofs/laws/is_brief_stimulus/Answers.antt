use Rattle.text_runs.proofs.Rhythm.{is_brief_run}
use Rattle.text_runs.proofs.laws.is_brief_stimulus.Goals as goal

pub returns : goal.returns
returns c = is_brief_run c.args.program.now c.is_stimulus.ensures
