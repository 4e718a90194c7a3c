use Rattle.std.proofs.Common.{◌≡◌, ◌∙◌, ◌<◌, ap, arith, get_or, inl, inr, length, refl, subst}
use Rattle.std.proofs.lemmas.Bool.{cases_lt}
use Rattle.std.proofs.lemmas.List.{get_or_default}
use Rattle.diff_matching.specs.declared.matching.Pair.{Pair}
use Rattle.diff_run_verdicts.specs.Lasting.{IsOneOf}
use Rattle.diff_run_verdicts.proofs.lasting.are_among.Goals as goal

pub loop-pair-preserved : goal.loop-pair-preserved
loop-pair-preserved c = λ k d less.
    let none : Pair = record { old = 0; new = 0 } in
    elim (cases_lt k c.loop-pair.pair-index) [
      | inl before ↦ c.loop-pair.invariant k d before
      | inr last ↦
          let here : c.loop-pair.pair-index ≡ k = omega arith in
          let within : k < length c.args.some.now = omega arith in
          let there : get_or c.args.some.now c.loop-pair.pair-index none ≡ get_or c.args.some.now k d
          = ap (λ n. get_or c.args.some.now n none) here ∙ get_or_default c.args.some.now k none d within in
          subst (λ (x : Pair). IsOneOf c.args.pairs.now x) there (c.if-not-is_among.ensures refl)
    ]
