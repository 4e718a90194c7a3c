use Rattle.std.proofs.Common.{◌∙◌, sym}
use Rattle.invariant_cases.specs.Assuming.{assumed_of, stored_inputs}
use Rattle.diff_cases.proofs.Assumed.{truth_stored}
use Rattle.diff_cases.proofs.assumptions.is_true_in.Goals as goal

pub returns : goal.returns
returns c =
    let a = assumed_of c.args.assumption in
    let same = c.assumed_truth.ensures ∙ truth_stored (stored_inputs a.inputs c.args.state.now.held.values) a.expression in
    (λ yes. sym same ∙ yes, λ true_in. same ∙ true_in)
