use Rattle.std.proofs.Common.{codes, refl}
use Rattle.io_text.proofs.Sending.{sends_last}
use Rattle.cli_usage.specs.Rules.{demand_text, given_of, joined, out_of, rule_text}
use Rattle.cli_usage.proofs.Parts.{first_failed}
use Rattle.cli_usage.proofs.telling.add_rule.Goals as goal

pub returns-in_err-add_joined : goal.returns-in_err-add_joined
returns-in_err-add_joined g c =
    let told = out_of c.args.broken.now in
    let about = joined (codes " with ") (given_of told.0) in
    first_failed _ _ _ _ (rule_text told) about (demand_text told) _ c.from_residual.ensures.0 refl (rw c.given_of.ensures at c.in_err-add_joined.ensures)

pub returns : goal.returns
returns g c =
    let told = out_of c.args.broken.now in
    let about = joined (codes " with ") (given_of told.0) in
    sends_last _ _ _ _ _ _ (rule_text told) about (demand_text told) _ refl (rw c.given_of.ensures at c.in_ok-add_joined.ensures) c.add_demand.ensures
