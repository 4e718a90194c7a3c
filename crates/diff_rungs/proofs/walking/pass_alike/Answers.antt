use Rattle.diff_rungs.proofs.Going.{past_alike}
use Rattle.diff_rungs.proofs.States.{narrowed_first}
use Rattle.diff_rungs.proofs.walking.pass_alike.Goals as goal

pub returns-clause-reached : goal.returns-clause-reached
returns-clause-reached c = λ moment s t shared.
    past_alike c.args.versions.matching.now c.args.versions.old.now c.args.versions.new.now c.args.place c.args.leaps.now.items c.args.marks.now c.write_rungs.new.marks
    moment s.held t.held (c.requires.reached moment s t shared) c.args.surely c.in_ok-same.same c.in_ok-together.together c.narrow.new.marks c.leap.new.leaps.items
    c.reach_after.result c.reach_after-2.result c.checked.ensures c.checked-2.ensures
    c.reach_after.ensures.further c.reach_after-2.ensures.further c.reach_after.ensures.target c.reach_after-2.ensures.target c.in_ok-same.ensures.same
    (narrowed_first c.args.surely c.args.marks.now c.in_ok-first.first c.write_rungs.new.marks c.narrow.new.marks c.in_ok-first.ensures c.narrow.ensures)
    c.in_ok-same.ensures.links c.in_ok-together.ensures.more c.in_ok-together.ensures.same c.requires.surely c.requires.together
