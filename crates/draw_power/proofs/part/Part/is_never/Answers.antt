use Rattle.std.proofs.Common.{◌∙◌}
use Rattle.draw_power.proofs.part.Part.is_never.Goals as goal

pub returns-in-Some-false : goal.returns-in-Some-false
returns-in-Some-false c = λ yes f. c.in-Some-false.ensures f ∙ c.in-Some-false.field-0-test
