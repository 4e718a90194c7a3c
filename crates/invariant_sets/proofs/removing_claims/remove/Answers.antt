use Rattle.std.proofs.Common.{◌∙◌, ap, arith, length, subst, sym, []}
use Rattle.std.proofs.lemmas.List.{with_items_is}
use Rattle.scan_cycle.specs.Programs.{diagram_of}
use Rattle.scan_symbolic.specs.KnownScan.{after_known, Known}
use Rattle.scan_signals.specs.Three.{three}
use Rattle.invariant_sets.specs.Never.{Bits, Stays}
use Rattle.invariant_cases.specs.Outcomes.{outcomes}
use Rattle.diagram_declarations.specs.declared.decls.Symbol.TheVariants as symbol
use Rattle.invariant_cases.specs.Cases.{IsSettledAssuming, of_itself}
use Rattle.invariant_sets.specs.Invariants.{IsSettledSoAssuming}
use Rattle.invariant_cases.specs.declared.outcome.Outcome.{Outcome}
use Rattle.scan_signals.specs.declared.tri.Tri.{Tri}
use Rattle.invariant_sets.proofs.Claims.{none_left}
use Rattle.invariant_sets.proofs.Left.{moved}
use Rattle.invariant_sets.proofs.Settled.{known_of_output, known_of_variable, left_plain, left_settled, same_bits, told_of_output, told_of_variable}
use Rattle.invariant_cases.specs.Assuming.{assumed_of}
use Rattle.invariant_sets.proofs.removing_claims.remove.Goals as goal

pub returns-clause-set : goal.returns-clause-set
returns-clause-set c =
    let before = c.set.inside in
    let variables = with_items_is before.variables c.leave_variables-variables.new.variables (c.leave_variables-variables.auto.variables ∙ c.deref_mut.ensures.len) in
    let instances = with_items_is before.instances c.leave_instances-instances.new.instances (c.leave_instances-instances.auto.instances ∙ c.deref_mut-2.ensures.len) in
    let old = c.deref_mut.ensures.value ∙ ap (λ (z : Bits). z.variables) c.set.view_is in
    record {
      variables = ap length variables ∙ c.leave_variables-variables.ensures.left.length ∙ ap length old ∙ c.requires.set.variables;
      instances = ap length instances ∙ c.leave_instances-instances.ensures.left.length ∙ ap length (c.deref_mut-2.ensures.value ∙ ap (λ (z : Bits). z.instances) c.set.view_is) ∙ c.requires.set.instances;
      no_input = λ var flag. none_left _ _ (λ value m. moved _ _ var value old (c.leave_variables-variables.ensures.left.within var value (moved _ _ var value variables m))) (c.requires.set.no_input var flag);
    }

pub returns-clause-within : goal.returns-clause-within
returns-clause-within c =
    let before = c.set.inside in
    record {
      variables = λ var value e.
          moved _ _ var value (c.deref_mut.ensures.value ∙ ap (λ (z : Bits). z.variables) c.set.view_is)
          (c.leave_variables-variables.ensures.left.within var value
          (moved _ _ var value (with_items_is before.variables c.leave_variables-variables.new.variables (c.leave_variables-variables.auto.variables ∙ c.deref_mut.ensures.len)) e));
      instances = λ inst value e.
          moved _ _ inst value (c.deref_mut-2.ensures.value ∙ ap (λ (z : Bits). z.instances) c.set.view_is)
          (c.leave_instances-instances.ensures.left.within inst value
          (moved _ _ inst value (with_items_is before.instances c.leave_instances-instances.new.instances (c.leave_instances-instances.auto.instances ∙ c.deref_mut-2.ensures.len)) e));
    }

pub returns-clause-most : goal.returns-clause-most
returns-clause-most c = λ other set stays within.
    let before = c.set.inside in
    let left = c.leaves_so.ensures other c.args.set.now set c.requires.set within stays in
    let after = c.scan_known.ensures.known ∙ ap (after_known three outcomes (diagram_of c.args.basis.program.now) 0 []) (c.copy_from.ensures ∙ c.know.ensures.known) in
    record {
      variables = λ var value m.
          moved _ _ var value (sym (with_items_is before.variables c.leave_variables-variables.new.variables (c.leave_variables-variables.auto.variables ∙ c.deref_mut.ensures.len)))
          (c.leave_variables-variables.ensures.left.kept var value
          (moved _ _ var value (sym (c.deref_mut.ensures.value ∙ ap (λ (z : Bits). z.variables) c.set.view_is)) (within.variables var value m))
          (told_of_variable _ _ var value after (left.variables var value m)));
      instances = λ inst value m.
          moved _ _ inst value (sym (with_items_is before.instances c.leave_instances-instances.new.instances (c.leave_instances-instances.auto.instances ∙ c.deref_mut-2.ensures.len)))
          (c.leave_instances-instances.ensures.left.kept inst value
          (moved _ _ inst value (sym (c.deref_mut-2.ensures.value ∙ ap (λ (z : Bits). z.instances) c.set.view_is)) (within.instances inst value m))
          (told_of_output _ _ inst value after (left.instances inst value m)));
    }

pub returns-clause-plain : goal.returns-clause-plain
returns-clause-plain c = λ none nothing.
    let before = c.set.inside in
    let after = c.scan_known.ensures.known ∙ ap (after_known three outcomes (diagram_of c.args.basis.program.now) 0 []) (c.copy_from.ensures ∙ c.know.ensures.known) in
    let variables = c.leave_variables-variables.ensures.left.same (omega (arith, nothing)) ∙ c.deref_mut.ensures.value ∙ ap (λ (z : Bits). z.variables) c.set.view_is in
    let instances = c.leave_instances-instances.ensures.left.same (omega (arith, nothing)) ∙ c.deref_mut-2.ensures.value ∙ ap (λ (z : Bits). z.instances) c.set.view_is in
    subst (Stays c.args.basis.program.now) (sym (same_bits _ _ _ _
    (with_items_is before.variables c.leave_variables-variables.new.variables (c.leave_variables-variables.auto.variables ∙ c.deref_mut.ensures.len) ∙ variables)
    (with_items_is before.instances c.leave_instances-instances.new.instances (c.leave_instances-instances.auto.instances ∙ c.deref_mut-2.ensures.len) ∙ instances)))
    (record {
      variables = λ var value m. known_of_variable c.args.set.now.variables _ _ var value after
          (c.scan_known.ensures.sizes.values ∙ sym c.requires.set.variables) m (left_plain (c.leave_variables-variables.ensures.left.holds var value (moved _ _ var value (sym variables) m)) none);
      instances = λ inst value m. known_of_output _ _ inst value after (left_plain (c.leave_instances-instances.ensures.left.holds inst value (moved _ _ inst value (sym instances) m)) none);
    })

pub returns-clause-settled : goal.returns-clause-settled
returns-clause-settled c = λ nothing.
    let before = c.set.inside in
    let variables = c.leave_variables-variables.ensures.left.same (omega (arith, nothing)) ∙ c.deref_mut.ensures.value ∙ ap (λ (z : Bits). z.variables) c.set.view_is in
    let instances = c.leave_instances-instances.ensures.left.same (omega (arith, nothing)) ∙ c.deref_mut-2.ensures.value ∙ ap (λ (z : Bits). z.instances) c.set.view_is in
    subst (λ (z : Bits). IsSettledSoAssuming c.args.basis.program.now (assumed_of c.args.basis.assumption) z c.args.pairs.now) (sym (same_bits _ _ _ _
    (with_items_is before.variables c.leave_variables-variables.new.variables (c.leave_variables-variables.auto.variables ∙ c.deref_mut.ensures.len) ∙ variables)
    (with_items_is before.instances c.leave_instances-instances.new.instances (c.leave_instances-instances.auto.instances ∙ c.deref_mut-2.ensures.len) ∙ instances)))
    (record {
      variables = λ var value m.
          subst (λ (k : Known Tri Outcome). IsSettledAssuming c.args.basis.program.now (assumed_of c.args.basis.assumption) c.args.pairs.now (of_itself (symbol.Var var)) value k) c.know.ensures.known
          (left_settled (c.leave_variables-variables.ensures.left.holds var value (moved _ _ var value (sym variables) m)));
      instances = λ inst value m.
          subst (λ (k : Known Tri Outcome). IsSettledAssuming c.args.basis.program.now (assumed_of c.args.basis.assumption) c.args.pairs.now (of_itself (symbol.Instance inst)) value k) (c.leave_variables-variables.ensures.buffers.case ∙ c.know.ensures.known)
          (left_settled (c.leave_instances-instances.ensures.left.holds inst value (moved _ _ inst value (sym instances) m)));
    })

pub returns-clause-same : goal.returns-clause-same
returns-clause-same c = λ nothing.
    let before = c.set.inside in
    let variables = c.leave_variables-variables.ensures.left.same (omega (arith, nothing)) ∙ c.deref_mut.ensures.value ∙ ap (λ (z : Bits). z.variables) c.set.view_is in
    let instances = c.leave_instances-instances.ensures.left.same (omega (arith, nothing)) ∙ c.deref_mut-2.ensures.value ∙ ap (λ (z : Bits). z.instances) c.set.view_is in
    same_bits _ _ _ _
    (with_items_is before.variables c.leave_variables-variables.new.variables (c.leave_variables-variables.auto.variables ∙ c.deref_mut.ensures.len) ∙ variables)
    (with_items_is before.instances c.leave_instances-instances.new.instances (c.leave_instances-instances.auto.instances ∙ c.deref_mut-2.ensures.len) ∙ instances)

pub returns-clause-case : goal.returns-clause-case
returns-clause-case c = c.leave_instances-instances.ensures.buffers.case ∙ c.leave_variables-variables.ensures.buffers.case ∙ c.know.ensures.known
