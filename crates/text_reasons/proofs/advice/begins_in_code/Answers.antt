use Rattle.std.proofs.Common.{◌∙◌, ℕ, List, ap}
use Rattle.text_reasons.specs.Outside.{is_code}
use Rattle.text_reasons.specs.declared.outside.Within.{Within}
use Rattle.text_reasons.proofs.advice.begins_in_code.Goals as goal

pub returns : goal.returns
returns c = c.is_code.ensures ∙ ap (λ (p : Within × List ℕ). is_code p.0) c.start_of.ensures
