use Rattle.text_power.proofs.LinkedEnds.{linked_ends}
use Rattle.text_power.proofs.laws.linked_ends.Goals as goal

pub returns : goal.returns
returns c = linked_ends c.args.program.now c.checked.ensures
