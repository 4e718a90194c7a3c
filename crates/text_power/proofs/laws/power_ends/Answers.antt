use Rattle.text_power.proofs.PowerRoutes.{power_comes}
use Rattle.text_power.proofs.laws.power_ends.Goals as goal

pub returns : goal.returns
returns c = power_comes c.args.program.now c.checked.ensures
