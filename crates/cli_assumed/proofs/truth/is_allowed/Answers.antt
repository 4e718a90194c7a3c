use Rattle.std.proofs.Common.{◌∙◌}
use Rattle.std.specs.Prelude.{option_map}
use Rattle.assume_truth.proofs.Kept.{allowed_is}
use Rattle.cli_assumed.proofs.truth.is_allowed.Goals as goal

pub returns : goal.returns
returns c = c.assumed_truth.ensures ∙ allowed_is c.args.inputs.now (option_map (λ e. e.now) c.args.assumed)
