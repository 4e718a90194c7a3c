use Rattle.std.proofs.Common.{◌≡◌, ◌∙◌, sym, true, false}
use Rattle.diagram_declarations.specs.Decls.{is_input}
use Rattle.causes_query.proofs.SourceLaws.{passed_over, taken_up}
use Rattle.causes_query.proofs.source.input_variables.Goals as goal

pub loop-var-preserved-then-not-is_input : goal.loop-var-preserved-then-not-is_input
loop-var-preserved-then-not-is_input c =
    let off : is_input c.index-vars-var.result ≡ false = sym c.is_input.ensures ∙ c.if-not-is_input.true in
    record {
      so_far = passed_over is_input (λ v. v) c.args.vars.now c.loop-var.var c.index-vars-var.result _ c.loop-var-test.true c.index-vars-var.is off
          c.loop-var.invariant.so_far;
    }

pub loop-var-preserved : goal.loop-var-preserved
loop-var-preserved c =
    let on : is_input c.index-vars-var.result ≡ true = sym c.is_input.ensures ∙ c.if-not-is_input.false in
    record {
      so_far = rw c.in_ok-push.ensures.items (taken_up is_input (λ v. v) c.args.vars.now c.loop-var.var c.index-vars-var.result _ c.loop-var-test.true c.index-vars-var.is on
          c.loop-var.invariant.so_far);
    }
