use Rattle.std.proofs.Common.{◌∙◌, ap}
use Rattle.std.proofs.lemmas.List.{with_items_is}
use Rattle.invariant_sets.specs.Never.{Bits}
use Rattle.invariant_sets.proofs.Claims.{thinned_within}
use Rattle.invariant_sets.proofs.Left.{moved}
use Rattle.invariant_sets.proofs.first_claims.begin_with.Goals as goal

pub returns-clause-so : goal.returns-clause-so
returns-clause-so c =
    let before = c.set.inside in
    record {
      variables = λ var value e.
          c.in_ok-set.ensures.so.variables var value
          (moved _ _ var value (c.deref_mut.ensures.value ∙ ap (λ (z : Bits). z.variables) c.set.view_is)
          (thinned_within _ _ _ c.thin_variables.ensures var value
          (moved _ _ var value (with_items_is before.variables c.thin_variables.new.variables (c.thin_variables.auto.variables ∙ c.deref_mut.ensures.len)) e)));
      instances = λ inst value e.
          c.in_ok-set.ensures.so.instances inst value
          (moved _ _ inst value (c.deref_mut-2.ensures.value ∙ ap (λ (z : Bits). z.instances) c.set.view_is)
          (thinned_within _ _ _ c.thin_instances.ensures inst value
          (moved _ _ inst value (with_items_is before.instances c.thin_instances.new.instances (c.thin_instances.auto.instances ∙ c.deref_mut-2.ensures.len)) e)));
    }
