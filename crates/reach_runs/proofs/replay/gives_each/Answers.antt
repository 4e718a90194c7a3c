use Rattle.std.proofs.Common.{◌≡◌, ◌∙◌, ◌+◌, ◌<◌, ℕ, ap, arith, below_more, false, length, map, slice_index_or, subst, sym, true}
use Rattle.std.proofs.lemmas.Bool.{eqb-true, eq-eqb, iff_false}
use Rattle.std.proofs.lemmas.List.{get_or-map}
use Rattle.diagram_declarations.specs.Decls.{Declared, is_input}
use Rattle.reach_runs.specs.Asking.{question_of}
use Rattle.reach_runs.proofs.GivenLaws.{all_keep, as_many, more_given, others_keep, rank, rank_none, rank_off, rank_on, same_keeps, stored_given, unassumed}
use Rattle.reach_runs.proofs.replay.gives_each.Goals as goal
use Rattle.reach_runs.proofs.replay.gives_each.Goals.{then-inputs-place-via-then-inputs-place, then-inputs-place-via-else-inputs-place+then-not-may_be_given}

pub loop-var-init : goal.loop-var-init
loop-var-init c = record {
  rank = sym (rank_none (map is_input c.vars-vars.result.now));
  within = omega arith;
  stored = λ v less. absurd (omega (arith, less));
}

pub loop-var-preserved-then-not-is_input : goal.loop-var-preserved-then-not-is_input
loop-var-preserved-then-not-is_input c =
    let vars = c.vars-vars.result.now in
    let flags = map is_input vars in
    let var = c.loop-var.var in
    let item = c.index-vars-var.result in
    let off : is_input item ≡ false = sym c.is_input.ensures ∙ c.if-not-is_input.true in
    let test : slice_index_or flags var false ≡ false = get_or-map is_input vars var item false c.loop-var-test.true ∙ sym (ap is_input c.index-vars-var.is) ∙ off in
    record {
      rank = c.loop-var.invariant.rank ∙ sym (rank_off flags var test);
      within = c.loop-var.invariant.within;
      stored = below_more _ _ c.loop-var.invariant.stored (λ other. others_keep flags c.args.inputs.now c.args.query.state.now.held.values var test);
    }

pub loop-var-preserved : goal.loop-var-preserved
loop-var-preserved c =
    let vars = c.vars-vars.result.now in
    let flags = map is_input vars in
    let var = c.loop-var.var in
    let item = c.index-vars-var.result in
    let on : is_input item ≡ true = sym c.is_input.ensures ∙ c.if-not-is_input.false in
    let test : slice_index_or flags var false ≡ true = get_or-map is_input vars var item false c.loop-var-test.true ∙ sym (ap is_input c.index-vars-var.is) ∙ on in
    let less : rank flags var < length c.args.inputs.now = subst (λ (n : ℕ). n < length c.args.inputs.now) c.loop-var.invariant.rank c.if-inputs-place.false in
    record {
      rank = ap (λ n. n + 1) c.loop-var.invariant.rank ∙ sym (rank_on flags var test);
      within = omega (arith, c.if-inputs-place.false);
      stored = below_more _ _ c.loop-var.invariant.stored (λ other. same_keeps flags c.args.inputs.now c.args.query.state.now.held.values var test less
          (ap (λ n. slice_index_or c.args.inputs.now n false) (sym c.loop-var.invariant.rank) ∙ c.may_be_given.ensures.0 c.if-not-may_be_given.false other));
    }

pub returns-then-inputs-place : goal.returns-then-inputs-place
returns-then-inputs-place c =
    let q = unassumed (question_of c.args.query) in
    let inputs = c.args.inputs.now in
    let vars = c.vars-vars.result.now in
    let var = c.loop-var.var in
    let item = c.index-vars-var.result in
    let same : vars ≡ q.program.decls.vars = c.vars-vars.ensures.value ∙ ap (λ (d : Declared). d.vars) c.decls.ensures in
    let on : is_input item ≡ true = sym c.is_input.ensures ∙ c.if-not-is_input.false in
    let test : slice_index_or (map is_input vars) var false ≡ true = get_or-map is_input vars var item false c.loop-var-test.true ∙ sym (ap is_input c.index-vars-var.is) ∙ on in
    let sizes : length q.state.held.values ≡ length vars = c.requires.values ∙ ap length (sym same) in (
      λ is. absurd cc,
      λ given. absurd (elim c.then-inputs-place.branch [
        | then-inputs-place-via-then-inputs-place w ↦ omega (arith, w.if-inputs-place.true, c.loop-var.invariant.rank, more_given q inputs vars same var test c.loop-var-test.true given)
        | then-inputs-place-via-else-inputs-place+then-not-may_be_given w ↦
            iff_false w.may_be_given.ensures w.if-not-may_be_given.true (λ other.
            ap (λ n. slice_index_or inputs n false) c.loop-var.invariant.rank ∙ stored_given q inputs vars same var test c.loop-var-test.true sizes given other)
      ]),
    )

pub returns : goal.returns
returns c =
    let q = unassumed (question_of c.args.query) in
    let inputs = c.args.inputs.now in
    let vars = c.vars-vars.result.now in
    let same : vars ≡ q.program.decls.vars = c.vars-vars.ensures.value ∙ ap (λ (d : Declared). d.vars) c.decls.ensures in
    let end : c.loop-var.var ≡ length vars = omega (arith, c.loop-var-test.false, c.loop-var.auto.var-end) in
    let place : c.loop-var.place ≡ rank (map is_input vars) (length vars) = c.loop-var.invariant.rank ∙ ap (rank (map is_input vars)) end in (
      λ all. all_keep q inputs vars same (sym (eqb-true c.loop-var.place (length inputs) all) ∙ place)
          (λ v less other. c.loop-var.invariant.stored v (omega (arith, less, end)) other),
      λ given. eq-eqb c.loop-var.place (length inputs) (place ∙ sym (as_many q inputs vars same given)),
    )
