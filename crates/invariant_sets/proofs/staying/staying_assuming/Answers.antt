use Rattle.invariant_cases.specs.Assuming.{assumed_of}
use Rattle.std.proofs.lemmas.Result.{IfOk-weaker}
use Rattle.invariant_sets.proofs.staying.staying_assuming.Goals as goal

pub returns-clause-so : goal.returns-clause-so
returns-clause-so c =
    IfOk-weaker c.staying_of.result _ _
    (λ staying is scans allowed. c.stays_assuming.ensures (assumed_of c.args.assumption) c.args.state.now c.requires c.checked.ensures staying.steady is.steady.set is.steady.so staying.apart is.apart is.steady.settled scans allowed)
    c.staying_of.ensures.stays
