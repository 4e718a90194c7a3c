use Rattle.std.proofs.Common.{rules, ◌<◌, ap, length, sym, ◌∙◌, ◌≡◌, false, map, refl, ℕ, slice_index_or}
use Rattle.std.proofs.lemmas.List.{get_or-map}
use Rattle.diagram_declarations.specs.Decls.{is_input}
use Rattle.diagram_declarations.specs.declared.decls.Symbol.TheVariants as symbol
use Rattle.invariant_sets.specs.Pairs.{IsOutside}
use Rattle.invariant_sets.proofs.Told.{not_true, passed_by, pushed, pushed_outside}
use Rattle.invariant_sets.proofs.first_pairs.add_variables.Goals as goal
use Rattle.invariant_sets.proofs.first_pairs.add_variables.Goals.{then-not-is_input+then-eq+in_ok-push, else-not-is_input, else-not-is_input-via-then-not-is_input+else-eq, else-not-is_input-via-else-not-is_input}

pub loop-var-preserved : goal.loop-var-preserved
loop-var-preserved c =
    let p = c.args.program.now in
    let z = c.args.set.now in
    let below : c.loop-var.var < length p.decls.vars = search rules in
    let same : c.vars-vars.result.now ≡ p.decls.vars = search rules in
    let input : slice_index_or (map is_input p.decls.vars) c.loop-var.var false ≡ c.is_input.result =
    get_or-map is_input p.decls.vars c.loop-var.var c.index-vars-var.result false below ∙ ap (λ vs. is_input (slice_index_or vs c.loop-var.var c.index-vars-var.result)) (sym same) ∙ ap is_input (sym c.index-vars-var.is) ∙ sym c.is_input.ensures in
    let P : ℕ → Type 0 = λ v. IsOutside p z (symbol.Var v) in
    elim c.if-not-is_input.branch [
      | then-not-is_input+then-eq+in_ok-push w ↦ record {
        outside = pushed_outside p z c.loop-var.symbols.items c.if-not-is_input.symbols.items (symbol.Var c.loop-var.var) (rw w.symbols-is w.in_ok-push.ensures.items) c.loop-var.invariant.outside (below, input ∙ w.if-not-is_input.true, search rules);
        all = pushed P (λ v. symbol.Var v) c.loop-var.symbols.items _ c.loop-var.var (rw w.symbols-is w.in_ok-push.ensures.items) c.loop-var.invariant.all;
      }
      | else-not-is_input w ↦ record {
        outside = search rules;
        all = passed_by P (λ v. symbol.Var v) c.loop-var.symbols.items _ c.loop-var.var (rw w.symbols-is refl) (λ h. elim w.else-not-is_input.branch [
          | else-not-is_input-via-then-not-is_input+else-eq v ↦ not_true v.if-eq.false (rw (v.of_variable.ensures ∙ h.2) at v.eq.ensures)
          | else-not-is_input-via-else-not-is_input v ↦
              not_true h.1 (input ∙ v.if-not-is_input.false)
        ]) c.loop-var.invariant.all;
      }
    ]
