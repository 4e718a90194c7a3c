use Rattle.std.proofs.Common.{rules, ◌∙◌, arith, refl, ℕ}
use Rattle.std.proofs.lemmas.List.Elements.{All-contains_itself}
use Rattle.diagram_declarations.specs.declared.decls.Symbol.TheVariants as symbol
use Rattle.invariant_sets.specs.Pairs.{IsOutside}
use Rattle.invariant_sets.proofs.Told.{not_true, passed_by, pushed, pushed_kept, pushed_outside}
use Rattle.invariant_sets.proofs.first_pairs.add_instances.Goals as goal
use Rattle.invariant_sets.proofs.first_pairs.add_instances.Goals.{then-eq+in_ok-push, else-eq}

pub loop-inst-init : goal.loop-inst-init
loop-inst-init c = record {
  outside = c.requires;
  all = λ i below h. absurd (omega (arith, below));
  kept = All-contains_itself c.args.symbols.now.items;
}

pub loop-inst-preserved : goal.loop-inst-preserved
loop-inst-preserved c =
    let P : ℕ → Type 0 = λ i. IsOutside c.args.program.now c.args.set.now (symbol.Instance i) in
    let inv = c.loop-inst.invariant in
    elim c.if-eq.branch [
      | then-eq+in_ok-push w ↦ record {
        outside = pushed_outside c.args.program.now c.args.set.now c.loop-inst.symbols.items c.if-eq.symbols.items (symbol.Instance c.loop-inst.inst) (rw w.symbols-is w.in_ok-push.ensures.items) inv.outside (search rules);
        all = pushed P (λ i. symbol.Instance i) c.loop-inst.symbols.items _ c.loop-inst.inst (rw w.symbols-is w.in_ok-push.ensures.items) inv.all;
        kept = pushed_kept c.loop-inst.symbols.items c.if-eq.symbols.items c.args.symbols.now.items (symbol.Instance c.loop-inst.inst) (rw w.symbols-is w.in_ok-push.ensures.items) inv.kept;
      }
      | else-eq w ↦ record {
        outside = search rules;
        all = passed_by P (λ i. symbol.Instance i) c.loop-inst.symbols.items _ c.loop-inst.inst (rw w.symbols-is refl) (λ h. not_true w.if-eq.false (rw (c.of_instance.ensures ∙ h.1) at c.eq.ensures)) inv.all;
        kept = rw w.symbols-is inv.kept;
      }
    ]
