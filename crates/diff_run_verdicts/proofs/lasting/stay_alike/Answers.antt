use Rattle.std.proofs.Common.{IsTrue, rules}
use Rattle.std.proofs.lemmas.Result.{IfOk-weaker}
use Rattle.diff_run_verdicts.proofs.lasting.stay_alike.Goals as goal

pub returns-then-have_its_inputs : goal.returns-then-have_its_inputs
returns-then-have_its_inputs c =
    let within : IsTrue c.have_its_inputs.result = search rules in
    IfOk-weaker c.is_part.result _ _ (λ so part yes. record { agree = (part yes).agree; inputs = c.have_its_inputs.ensures within }) c.is_part.ensures
