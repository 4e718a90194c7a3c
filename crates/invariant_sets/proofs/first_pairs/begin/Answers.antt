use Rattle.std.proofs.Common.{◌+◌, ◌-◌, arith, length, subst, sym}
use Rattle.std.proofs.lemmas.List.Elements.{All-drop, All-get_or, All-same, All-take}
use Rattle.invariant_sets.specs.Pairs.{IsOutside}
use Rattle.diagram_declarations.specs.declared.decls.Symbol.{Symbol}
use Rattle.invariant_sets.specs.Beginning.{HasEach}
use Rattle.std.proofs.lemmas.List.{get_or_default, length-drop, take_all}
use Rattle.std.proofs.Common.{◌∙◌, ◌≡◌, ◌≤◌, List, ap, take, ℕ, drop, inl, inr, slice_index_or}
use Rattle.std.proofs.lemmas.Bool.{cases_order}
use Rattle.invariant_sets.proofs.Kept.{each_on, outside_more}
use Rattle.invariant_sets.proofs.Told.{each_pair}
use Rattle.invariant_sets.proofs.first_pairs.begin.Goals as goal

pub loop-number-preserved : goal.loop-number-preserved
loop-number-preserved c =
    let P = IsOutside c.args.program.now c.args.set.now in
    let symbols = c.in_ok-symbols.symbols.items in
    let here : (d : Symbol) → HasEach c.args.state.now.held c.args.after.now c.add_pairs.new.pairs.items (slice_index_or symbols c.loop-number.number d) (drop (c.loop-number.number + 1) symbols) = λ d.
    let n = c.loop-number.number in
    let short : length (drop (n + 1) c.deref.result.now) ≤ length c.deref.result.now - (n + 1) = omega (arith, length-drop (n + 1) c.deref.result.now) in
    let whole : take (length c.deref.result.now - (n + 1)) (drop (n + 1) c.deref.result.now) ≡ drop (n + 1) symbols = take_all _ _ short ∙ ap (λ ss. drop (n + 1) ss) c.deref.ensures.value in
    let first : c.index.result.now ≡ slice_index_or symbols n d = c.index.ensures ∙ get_or_default symbols n _ d (omega (arith, c.loop-number-test.true, c.len-number-end.ensures)) in
    subst (λ (ss : List Symbol). HasEach c.args.state.now.held c.args.after.now c.add_pairs.new.pairs.items (slice_index_or symbols n d) ss) whole
    (subst (λ (x : Symbol). HasEach c.args.state.now.held c.args.after.now c.add_pairs.new.pairs.items x (take (length c.deref.result.now - (n + 1)) (drop (n + 1) c.deref.result.now))) first
    c.in_ok-add_pairs.ensures.each) in
    record {
      outside = outside_more c.args.program.now c.args.set.now _ _ c.loop-number.pairs.items c.add_pairs.new.pairs.items
          (subst P (sym c.index.ensures) (All-get_or P symbols c.loop-number.number _ (omega (arith, c.loop-number-test.true, c.len-number-end.ensures)) c.in_ok-symbols.ensures.outside))
          (All-take P (length c.deref.result.now - (c.loop-number.number + 1)) _ (All-drop P (c.loop-number.number + 1) c.deref.result.now (All-same P c.deref.result.now symbols c.deref.ensures.value c.in_ok-symbols.ensures.outside)))
          c.loop-number.invariant.outside c.in_ok-add_pairs.ensures.added;
      apart = c.in_ok-add_pairs.ensures.apart;
      each = λ i d below. elim (cases_order i c.loop-number.number) [
        | inl e ↦ subst (λ (k : ℕ). HasEach c.args.state.now.held c.args.after.now c.add_pairs.new.pairs.items (slice_index_or symbols k d) (drop (k + 1) symbols)) (sym e) (here d)
        | inr (inl l) ↦ each_on c.args.state.now.held c.args.after.now c.loop-number.pairs.items c.add_pairs.new.pairs.items (slice_index_or symbols i d) (drop (i + 1) symbols)
            c.in_ok-add_pairs.ensures.kept (c.loop-number.invariant.each i d l)
        | inr (inr l) ↦ absurd (omega (arith, l, below))
      ];
    }

pub returns-clause-told : goal.returns-clause-told
returns-clause-told c = λ pair outside differ off told.
    each_pair c.args.state.now.held c.args.after.now c.in_ok-symbols.symbols.items c.loop-number.pairs.items
    (λ i d below. c.loop-number.invariant.each i d (omega (arith, below, c.loop-number-test.false)))
    pair (c.in_ok-symbols.ensures.all pair.first outside.first) (c.in_ok-symbols.ensures.all pair.second outside.second) differ off told
