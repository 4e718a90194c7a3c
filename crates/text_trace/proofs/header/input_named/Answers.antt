use Rattle.std.proofs.Common.{◌∙◌, ap, arith, sym}
use Rattle.std.specs.List.{count_by}
use Rattle.diagram_declarations.specs.Decls.{is_input}
use Rattle.text_trace.proofs.Lists.{count_below}
use Rattle.text_trace.proofs.header.input_named.Goals as goal

pub returns-clause-below : goal.returns-clause-below
returns-clause-below c =
    let vars = c.vars-vars.result.now in
    let number = c.in-Some-Var.number in
    let x = c.index-vars-number.result in
    let holds = sym c.is_input.ensures ∙ c.if-not-is_input.false in
    let below = count_below is_input vars number x (omega arith) (ap is_input (sym c.index-vars-number.is) ∙ holds) in
    omega (arith, below, c.inputs_before.ensures, ap (count_by is_input) c.vars-vars.ensures.value)
