use Rattle.text_power.proofs.Cuts.{cuts_hold}
use Rattle.text_power.proofs.laws.cuts.Goals as goal

pub returns : goal.returns
returns c = cuts_hold c.args.program.now c.checked.ensures
