use Rattle.text_runs.proofs.Simulated as laws
use Rattle.text_runs.proofs.laws.is_brief_simulated.Goals as goal

pub returns : goal.returns
returns c = laws.is_brief_simulated c.args.program.now c.is_brief_stimulus.ensures c.is_simulated.ensures
