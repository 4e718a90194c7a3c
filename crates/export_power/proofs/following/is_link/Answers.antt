use Rattle.std.proofs.Common.{◌∙◌}
use Rattle.export_power.proofs.following.is_link.Goals as goal

pub returns-then-place-lt-PLACES : goal.returns-then-place-lt-PLACES
returns-then-place-lt-PLACES c = λ found k now f s sees. c.ends_before.ensures k now f ∙ c.is_power.ensures found k now f s sees
