use Rattle.std.proofs.Common.{◌≡◌, ◌∙◌, ap, arith, length, refl, sym}
use Rattle.invariant_sets.proofs.Claims.{claim_within}
use Rattle.invariant_runs.proofs.so.is_so.Goals as goal

pub returns-then-are_variables_so : goal.returns-then-are_variables_so
returns-then-are_variables_so c = λ is.
    let z = c.args.set.now in
    let vars : length z.variables ≡ length c.vars.result.now =
    c.requires.variables ∙ ap (λ d. length d.vars) (sym c.decls-decls.ensures) ∙ ap length (sym c.vars.ensures.value) in
    let instances : length z.instances ≡ length c.instances.result.now =
    c.requires.instances ∙ ap (λ d. length d.instances) (sym c.decls-decls.ensures) ∙ ap length (sym c.instances.ensures.value) in
    record {
      variables = λ var value e. c.if-are_variables_so.ensures refl var (omega (arith, vars, claim_within z.variables var value e)) value e;
      instances = λ inst value e. c.are_instances_so.ensures is inst (omega (arith, instances, claim_within z.instances inst value e)) value e;
    }
