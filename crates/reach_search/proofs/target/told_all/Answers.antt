use Rattle.std.proofs.Common.{◌∙◌, ap, ap₂, sym}
use Rattle.std.proofs.lemmas.List.{take_all}
use Rattle.std.proofs.lemmas.List.Sums.{fold_more}
use Rattle.scan_signals.specs.Three.{three_meet}
use Rattle.scan_signals.specs.declared.tri.Tri.TheVariants.{On}
use Rattle.reach_search.specs.Visits.{told, told_all}
use Rattle.reach_search.proofs.target.told_all.Goals as goal

pub loop-number-preserved : goal.loop-number-preserved
loop-number-preserved c =
    let k = c.args.known.now in
    c.and-all.ensures ∙ ap₂ three_meet c.loop-number.invariant c.told.ensures
    ∙ sym (fold_more (λ all literal. three_meet all (told k literal)) On c.args.literals.now c.loop-number.number _ c.loop-number-test.true)

pub returns : goal.returns
returns c = c.loop-number.invariant ∙ ap (told_all c.args.known.now) (take_all c.loop-number.number c.args.literals.now c.loop-number-test.false)
