use Rattle.std.proofs.Common.{◌∙◌, ap}
use Rattle.assume_truth.specs.Truth.{is_allowed}
use Rattle.assume_both.proofs.both.is_ever_true.Goals as goal

pub returns-in-Ok-clause-none : goal.returns-in-Ok-clause-none
returns-in-Ok-clause-none c = λ none values. ap (λ e. is_allowed e values) c.in-Some.is ∙ c.in-Ok.ensures.none none values
