use Rattle.std.proofs.Common.{◌∙◌, ◌+◌, ◌-◌, arith}
use Rattle.std.proofs.lemmas.List.{length-set}
use Rattle.diagram_program.specs.declared.geometry.TheConstants.{COLUMNS}
use Rattle.text_warnings.specs.Routes.{HasRoute}
use Rattle.text_warnings.proofs.Below.{set_more}
use Rattle.text_warnings.proofs.leading.leading_before.Goals as goal

pub loop-from-preserved : goal.loop-from-preserved
loop-from-preserved c =
    let inv = c.loop-from.invariant in
    let leading = c.loop-from.leading in
    let i = c.loop-from.from in (
      set_more (λ row. HasRoute c.args.program.now c.args.rung row (COLUMNS - (c.args.count + 1 + 1))) leading i c.leads.result (omega (arith, inv.1, c.loop-from-test.true)) c.leads.ensures inv.0,
      length-set leading i c.leads.result ∙ inv.1,
    )
