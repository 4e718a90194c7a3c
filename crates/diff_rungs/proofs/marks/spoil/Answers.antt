use Rattle.std.proofs.Common.{◌≡◌, ◌∙◌, ap, arith, get_or, Some, subst, sym, inl, inr}
use Rattle.std.proofs.lemmas.Bool.{cases_lt}
use Rattle.std.proofs.lemmas.Option.{get_or_from_slice_get, slice_get_within}
use Rattle.diff_matching.specs.declared.matching.Pair.{Pair}
use Rattle.diff_rungs.specs.Marks.{HasMark, number_in}
use Rattle.diff_rungs.proofs.marks.spoil.Goals as goal

pub loop-n-preserved : goal.loop-n-preserved
loop-n-preserved c = record {
  many = c.unmark.ensures.many ∙ c.loop-n.invariant.many;
  before = λ k mark. c.loop-n.invariant.before k (c.unmark.ensures.before k mark);
  spoiled = λ k x less is mark at. elim (cases_lt k c.loop-n.n) [
    | inl below ↦ c.loop-n.invariant.spoiled k x below is (c.unmark.ensures.before k mark) at
    | inr above ↦ (
        let here : k ≡ c.loop-n.n = omega arith in
        let d : Pair = record { old = 0; new = 0 } in
        let found = get_or_from_slice_get c.args.pairs.now k x d is in
        let number : c.number_in.result ≡ number_in c.args.side x =
        c.number_in.ensures ∙ ap (λ n. number_in c.args.side (get_or c.args.pairs.now n d)) (sym here) ∙ ap (number_in c.args.side) found in
        let asked = c.is_at.ensures.1 (at ∙ ap (λ n. Some n) (sym number)) in
        c.unmark.ensures.taken asked (subst (HasMark c.unmark.new.marks.items) here mark)
        )
  ];
}

pub returns-clause-spoiled : goal.returns-clause-spoiled
returns-clause-spoiled c = λ n x is mark.
    let within = slice_get_within c.args.pairs.now n x is in
    (c.loop-n.invariant.spoiled n x (omega arith) is mark, c.loop-n.invariant.before n mark)
