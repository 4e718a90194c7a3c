use Rattle.std.proofs.Common.{subst, sym}
use Rattle.diff_cases.specs.Assuming.{BothAssumed, assumed_of_both}
use Rattle.diff_cases.specs.Cases.{IsSettledAlikeAssuming, IsToldAlike}
use Rattle.diff_verdicts.proofs.Opened.{left_alike}
use Rattle.diff_verdicts.specs.Carrying.{Knowns}
use Rattle.diff_verdicts.specs.Judging.{opening}
use Rattle.diff_verdicts.proofs.asking.is_same_among.Goals as goal

pub returns-then-is_comparable-clause-same : goal.returns-then-is_comparable-clause-same
returns-then-is_comparable-clause-same c = λ yes.
    let p = c.args.question.old.now in
    let q = c.args.question.new.now in
    let m = c.args.question.matching.now in
    let target = c.args.question.target in
    let a = assumed_of_both c.args.question.assumed in
    left_alike c.args.counted.now m p q target c.knowing_allows.ensures c.knowing_allows-2.ensures c.settled_alike.ensures c.requires.counted
    (c.is_comparable.ensures.0 c.if-is_comparable.true)
    (subst (λ (b : BothAssumed). IsSettledAlikeAssuming p q b m target (opening c.args.counted.now m p q).of_old (opening c.args.counted.now m p q).of_new) c.requires.assumed
    (subst (λ (k : Knowns). IsSettledAlikeAssuming p q a m target k.of_old k.of_new) c.open_all.ensures.known (c.settle.ensures.settled yes)))

pub returns-then-is_comparable-clause-at_once : goal.returns-then-is_comparable-clause-at_once
returns-then-is_comparable-clause-at_once c = λ some told_at_once.
    let p = c.args.question.old.now in
    let q = c.args.question.new.now in
    c.settle.ensures.at_once some
    (subst (λ (k : Knowns). IsToldAlike p q c.args.question.target k.of_old k.of_new) (sym c.open_all.ensures.known) told_at_once.1)
