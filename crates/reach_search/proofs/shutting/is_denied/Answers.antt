use Rattle.std.proofs.Common.{false, sym, true}
use Rattle.reach_search.proofs.ShutOut.{denied, not_on}
use Rattle.reach_search.proofs.shutting.is_denied.Goals as goal

pub returns-in-On : goal.returns-in-On
returns-in-On c = λ is h so. denied c.args.steady.now c.args.literal true h so (sym c.in-On.ensures) (not_on c.args.literal.value is)

pub returns-in-Off : goal.returns-in-Off
returns-in-Off c = λ is h so. denied c.args.steady.now c.args.literal false h so (sym c.in-Off.ensures) is
