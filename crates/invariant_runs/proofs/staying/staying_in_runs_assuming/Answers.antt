use Rattle.std.proofs.lemmas.Result.{IfOk-weaker}
use Rattle.invariant_cases.specs.Assuming.{assumed_of}
use Rattle.invariant_runs.proofs.staying.staying_in_runs_assuming.Goals as goal

pub returns-clause-reached : goal.returns-clause-reached
returns-clause-reached c =
    IfOk-weaker c.staying_assuming.result _ _
    (λ staying is. c.reached_assuming.ensures (assumed_of c.args.assumption) c.args.state.now c.requires c.checked.ensures staying is) c.staying_assuming.ensures.stays
