use Rattle.std.proofs.Common.{◌≡◌, ◌∙◌, ap, map, subst, List, Option, Some}
use Rattle.std.specs.Prelude.{IfOk}
use Rattle.st_expression.specs.declared.expression.Expression.{Expression}
use Rattle.diagram_declarations.specs.Decls.{Declared, is_input}
use Rattle.diagram_declarations.specs.declared.decls.Var.{Var}
use Rattle.causes_query.specs.Assignment.{input_variables}
use Rattle.invariant_cases.specs.Assuming.{Assumed}
use Rattle.invariant_runs.specs.Reached.{AreReachedAssuming}
use Rattle.invariant_sets.specs.Invariants.{IsStayingAssuming}
use Rattle.cli_states.specs.Never.{of_inputs}
use Rattle.cli_states.proofs.Allowing.{are_inputs}
use Rattle.cli_states.proofs.PossibleEnds.{ok_each}
use Rattle.cli_states.proofs.possible_asking.staying_where_true.Goals as goal

pub returns : goal.returns
returns c =
    let p = c.args.program.now in
    let s = c.args.state.now in
    let assumed : Option Expression = Some c.args.assumed.now in
    let is : record { inputs = c.deref.result.now; expression = assumed } ≡ of_inputs p assumed =
    are_inputs p c.deref.result.now assumed
    (c.deref.ensures.value ∙ c.in_ok-inputs.ensures
    ∙ ap (λ (vs : List Var). input_variables (map is_input vs)) (c.vars.ensures.value ∙ ap (λ (d : Declared). d.vars) c.decls.ensures)) in
    ok_each c.staying_in_runs_assuming.result _ _ _
    (subst (λ (a : Assumed). IfOk c.staying_in_runs_assuming.result (λ known. IsStayingAssuming p a s known)) is c.staying_in_runs_assuming.ensures.settled)
    (subst (λ (a : Assumed). IfOk c.staying_in_runs_assuming.result (λ known. AreReachedAssuming p a s known)) is c.staying_in_runs_assuming.ensures.reached)
    c.staying_in_runs_assuming.ensures.told
