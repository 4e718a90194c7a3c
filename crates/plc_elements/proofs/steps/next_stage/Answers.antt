use Rattle.std.proofs.Common.{◌≤◌, arith, refl, rules}
use Rattle.network_routes.proofs.Within.{all_further}
use Rattle.plc_elements.proofs.steps.next_stage.Goals as goal

pub returns-clause-stage : goal.returns-clause-stage
returns-clause-stage c = λ done stage.
    let later : c.args.stage.at ≤ c.in_ok-at.at = omega (arith, c.in_ok-at.ensures) in
    record {
      numbered = stage.numbered;
      within = (c.is_within.ensures (search rules), all_further c.args.body.network c.args.leading.firsts.now c.args.stage.at c.in_ok-at.at done later stage.within);
      last = (done, refl);
    }
