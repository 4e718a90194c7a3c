use Rattle.std.proofs.Common.{◌≡◌, ◌∙◌, ℕ, ap, arith, inl, inr, refl, slice_index_or, subst, sym}
use Rattle.std.proofs.lemmas.Bool.{cases_lt}
use Rattle.diagram_declarations.specs.declared.kind.BlockKind.TheVariants.{Ton}
use Rattle.scan_signals.specs.Blocks.{new_block, q_of}
use Rattle.invariant_sets.specs.Never.{claims}
use Rattle.scan_signals.specs.Three.{three_known}
use Rattle.invariant_runs.proofs.so.are_instances_so.Goals as goal

pub loop-inst-preserved : goal.loop-inst-preserved
loop-inst-preserved c = λ i less value e.
    let set = c.args.set.now in
    let blocks = c.args.state.now.held.kept.blocks in
    let x : ℕ = c.loop-inst.inst in
    elim (cases_lt i x) [
      | inl low ↦ c.loop-inst.invariant i low value e
      | inr high ↦
          let same : i ≡ x = omega (arith, less, high) in
          let here : claims set.instances x ≡ three_known value = subst (λ (n : ℕ). claims set.instances n ≡ three_known value) same e in
          subst (λ (n : ℕ). q_of (slice_index_or blocks n (new_block Ton)) ≡ value) (sym same)
          (ap q_of (sym c.stored.ensures) ∙ sym c.q.ensures ∙ c.if-not-allows.ensures refl value (c.of_instance.ensures ∙ here))
    ]

pub returns : goal.returns
returns c = λ t i less value e. c.loop-inst.invariant i (omega (arith, less, c.loop-inst-test.false)) value e
