use Rattle.std.proofs.Common.{◌∙◌}
use Rattle.std.specs.Prelude.{option_map}
use Rattle.causes_any_state.specs.Truth.{stored_inputs}
use Rattle.causes_any_state.proofs.Assuming.{truth_stored}
use Rattle.causes_any_state.proofs.assumed.is_true.Goals as goal

pub returns : goal.returns
returns c = c.assumed_truth.ensures ∙ truth_stored (stored_inputs c.args.inputs.now c.args.state.now.held.values) (option_map (λ e. e.now) c.args.assumed)
