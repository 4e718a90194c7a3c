use Rattle.std.proofs.Common.{◌≡◌, ◌∙◌, ap, arith, false, length, List, map, slice_index_or, sym, if◌then◌else◌}
use Rattle.std.proofs.lemmas.List.{length-replicate, with_items_is}
use Rattle.diagram_declarations.specs.declared.decls.Decls.{Decls}
use Rattle.diagram_declarations.specs.declared.decls.Var.{Var}
use Rattle.diagram_declarations.specs.Decls.{is_input}
use Rattle.scan_signals.specs.Three.{three_known}
use Rattle.scan_signals.specs.declared.tri.Tri.TheVariants.{Unsure}
use Rattle.invariant_cases.specs.Allowing.{is_on_in}
use Rattle.invariant_sets.specs.Never.{Bits}
use Rattle.invariant_cases.specs.declared.point.Point.TheVariants.{Output}
use Rattle.invariant_sets.proofs.Begun.{begun_most}
use Rattle.invariant_cases.proofs.Values.{on_off}
use Rattle.invariant_sets.proofs.Left.{moved}
use Rattle.invariant_sets.proofs.first_claims.begin.Goals as goal

pub returns-clause-most : goal.returns-clause-most
returns-clause-most c = λ other set so.
    let before = c.set.inside in
    let vars = c.args.program.now.decls.vars in
    let values = c.args.state.now.held.values in
    let same : c.vars.result.now ≡ vars = c.vars.ensures.value ∙ ap (λ (d : Decls). d.vars) c.decls-decls.ensures in
    let variables = with_items_is before.variables c.begin_variables.new.variables (c.begin_variables.auto.variables ∙ c.deref_mut.ensures.len) in
    let instances = with_items_is before.instances c.begin_instances.new.instances (c.begin_instances.auto.instances ∙ c.deref_mut-2.ensures.len) in
    let as_many_variables : length c.begin_variables.new.variables ≡ length vars =
    c.begin_variables.auto.variables ∙ ap length (c.deref_mut.ensures.value ∙ ap (λ (z : Bits). z.variables) c.set.view_is ∙ c.in_ok-set.ensures.variables)
    ∙ length-replicate (length vars) Unsure in
    let as_many_instances : length c.begin_instances.new.instances ≡ length c.args.program.now.decls.instances =
    c.begin_instances.auto.instances ∙ ap length (c.deref_mut-2.ensures.value ∙ ap (λ (z : Bits). z.instances) c.set.view_is ∙ c.in_ok-set.ensures.instances)
    ∙ length-replicate (length c.args.program.now.decls.instances) Unsure in
    record {
      variables = λ var value m.
          moved _ _ var value (sym variables)
          (begun_most (λ i. slice_index_or (map is_input vars) i false) (λ i. slice_index_or values i false) c.begin_variables.new.variables
          (λ i l. c.begin_variables.ensures i (omega (arith, l, as_many_variables, ap length same))
          ∙ ap (λ (xs : List Var). if slice_index_or (map is_input xs) i false then Unsure else three_known (slice_index_or values i false)) same)
          other.variables (set.variables ∙ sym as_many_variables) set.no_input so.variables var value m);
      instances = λ inst value m.
          moved _ _ inst value (sym instances)
          (begun_most (λ i. false) (λ i. is_on_in (Output i) c.args.state.now.held) c.begin_instances.new.instances
          (λ i l. c.begin_instances.ensures i (omega (arith, l, c.begin_instances.auto.instances)))
          other.instances (set.instances ∙ sym as_many_instances) (λ i e. absurd (on_off (sym e))) so.instances inst value m);
    }
