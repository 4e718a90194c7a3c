use Rattle.std.proofs.Common.{subst, sym}
use Rattle.diff_meaning.specs.Counting.{StayFromFresh}
use Rattle.diff_meaning.specs.declared.counted.CountedStates.{CountedStates}
use Rattle.diff_beside.proofs.parts.stay_alike.Goals as goal

pub returns : goal.returns
returns c = λ same.
    let counted = c.of-counted.result in
    let verdicts = c.in_ok-judgement.judgement.verdicts in
    c.fresh_runs_agree.ensures counted.states c.args.matching.now verdicts
    (subst (λ (s : CountedStates). StayFromFresh s c.args.part.now c.args.whole.now) (sym c.of-counted.ensures.states) tt)
    (c.true_of_all.ensures.verdicts counted c.args.matching.now verdicts c.of-counted.ensures.assumed c.in_ok-judgement.ensures) (c.are_all_same.ensures.0 same)
    c.requires.no_input c.requires.start
