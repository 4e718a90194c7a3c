use Rattle.std.proofs.Common.{◌≡◌, ◌∙◌, ℕ, arith, inl, inr, refl, slice_index_or, false, subst, sym}
use Rattle.std.proofs.lemmas.Bool.{cases_lt}
use Rattle.invariant_sets.specs.Never.{claims}
use Rattle.scan_signals.specs.Three.{three_known}
use Rattle.invariant_runs.proofs.so.are_variables_so.Goals as goal

pub loop-var-preserved : goal.loop-var-preserved
loop-var-preserved c = λ v less value e.
    let set = c.args.set.now in
    let held = c.args.state.now.held in
    let x : ℕ = c.loop-var.var in
    elim (cases_lt v x) [
      | inl low ↦ c.loop-var.invariant v low value e
      | inr high ↦
          let same : v ≡ x = omega (arith, less, high) in
          let here : claims set.variables x ≡ three_known value = subst (λ (n : ℕ). claims set.variables n ≡ three_known value) same e in
          subst (λ (n : ℕ). slice_index_or held.values n false ≡ value) (sym same)
          (sym c.value_or_off.ensures ∙ c.if-not-allows.ensures refl value (c.of_variable.ensures ∙ here))
    ]

pub returns : goal.returns
returns c = λ t v less value e. c.loop-var.invariant v (omega (arith, less, c.loop-var-test.false)) value e
