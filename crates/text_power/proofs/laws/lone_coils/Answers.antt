use Rattle.text_power.proofs.LoneCoils.{lone_coils}
use Rattle.text_power.proofs.laws.lone_coils.Goals as goal

pub returns : goal.returns
returns c = lone_coils c.args.program.now c.checked.ensures
