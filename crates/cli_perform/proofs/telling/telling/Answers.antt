use Rattle.std.proofs.Common.{refl, true, false}
use Rattle.cli_perform.proofs.telling.telling.Goals as goal

pub returns-in-Sim : goal.returns-in-Sim
returns-in-Sim c =
    rw c.in-Sim.is (record { sim = c.in-Sim.sim; all = false; names = c.new.result; changes = false; progress = true }, refl, refl, refl, c.new.ensures.items, refl, refl)
