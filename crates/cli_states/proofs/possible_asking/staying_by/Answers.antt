use Rattle.std.proofs.Common.{ap, subst, sym, Option}
use Rattle.std.specs.Prelude.{IfOk, option_map}
use Rattle.st_expression.specs.declared.expression.Expression.{Expression}
use Rattle.cli_states.specs.AnyState.{IsSettledBy}
use Rattle.cli_states.proofs.PossibleEnds.{ok_each}
use Rattle.cli_states.proofs.possible_asking.staying_by.Goals as goal

pub returns-in-Some : goal.returns-in-Some
returns-in-Some c =
    subst (λ (a : Option Expression). IfOk c.staying_where_true.result (λ known. IsSettledBy a c.args.program.now c.args.state.now known))
    (sym (ap (option_map (λ e. e.now)) c.in-Some.is)) c.staying_where_true.ensures

pub returns-in-None : goal.returns-in-None
returns-in-None c =
    subst (λ (a : Option Expression). IfOk c.staying_in_runs.result (λ known. IsSettledBy a c.args.program.now c.args.state.now known))
    (sym (ap (option_map (λ e. e.now)) c.in-None.is))
    (ok_each c.staying_in_runs.result _ _ _ c.staying_in_runs.ensures.settled c.staying_in_runs.ensures.reached c.staying_in_runs.ensures.told)
