use Rattle.diff_rungs.proofs.Going.{past_old}
use Rattle.diff_rungs.proofs.walking.pass_old.Goals as goal

pub returns-clause-reached : goal.returns-clause-reached
returns-clause-reached c = λ moment s t shared.
    past_old c.args.versions.matching.now c.args.versions.old.now c.args.versions.new.now c.args.place c.args.leaps.now.items c.args.marks.now c.spoil_rung.new.marks
    moment s.held t.held (c.requires.reached moment s t shared) c.reach_after.result c.stay_together-together.result c.reach_after.ensures.further c.reach_after.ensures.target
    c.spoil_rung.ensures c.stay_together-together.ensures
