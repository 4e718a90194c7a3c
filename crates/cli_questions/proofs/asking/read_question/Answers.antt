use Rattle.std.proofs.Common.{◌∙◌, ap, inr}
use Rattle.std.specs.Prelude.{unwrap_or}
use Rattle.cli_questions.proofs.asking.read_question.Goals as goal

pub returns-in-Ok-asked_variables-clause-asked : goal.returns-in-Ok-asked_variables-clause-asked
returns-in-Ok-asked_variables-clause-asked c =
    let named = c.in-Ok-asked_variables.ensures in (
      record {
        set = c.in-Ok.ensures.set;
        at = c.moment-moment.ensures ∙ ap (unwrap_or c.args.asked_moment) c.moment.ensures;
        on = rw c.decls.ensures at named.coil;
      },
      rw c.decls.ensures at named.inputs,
    )

pub returns-in-Err-asked_variables-clause-fault : goal.returns-in-Err-asked_variables-clause-fault
returns-in-Err-asked_variables-clause-fault c =
    let s = c.in-Ok.setting in
    inr (s.program, s.state, c.in-Ok.ensures.set, rw c.decls.ensures at c.in-Err-asked_variables.ensures.fault)
