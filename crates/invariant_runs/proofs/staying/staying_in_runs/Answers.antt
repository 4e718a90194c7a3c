use Rattle.std.proofs.lemmas.Result.{IfOk-weaker}
use Rattle.invariant_runs.proofs.staying.staying_in_runs.Goals as goal

pub returns-clause-reached : goal.returns-clause-reached
returns-clause-reached c =
    IfOk-weaker c.staying_from.result _ _ (λ staying is. c.reached.ensures c.args.state.now c.requires c.checked.ensures staying is) c.staying_from.ensures.stays
