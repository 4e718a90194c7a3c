use Rattle.std.proofs.Common.{◌∙◌, sym, map, arith}
use Rattle.diagram_declarations.specs.Decls.{is_input}
use Rattle.scan_cycle.proofs.Giving.{given_leading, leading_on}
use Rattle.scan_cycle.proofs.inputs.give.Goals as goal

pub returns-then-inputs-leading_inputs : goal.returns-then-inputs-leading_inputs
returns-then-inputs-leading_inputs g c =
    c.give_leading.ensures
    ∙ sym (given_leading (map is_input c.args.decls.now.vars) c.args.inputs.now c.args.values.now c.if-inputs-values.true
    (λ i below. leading_on is_input c.args.decls.now.vars i (omega (arith, below, c.if-inputs-leading_inputs.true, c.leading_inputs.ensures))))
