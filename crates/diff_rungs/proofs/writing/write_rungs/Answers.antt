use Rattle.diff_rungs.proofs.Acting.{rungs_kept, rungs_spoiled}
use Rattle.diff_rungs.proofs.writing.write_rungs.Goals as goal

pub returns-in_ok-start-clause-same : goal.returns-in_ok-start-clause-same
returns-in_ok-start-clause-same c =
    rungs_kept c.args.versions.matching.now c.args.versions.old.now c.args.versions.new.now c.args.rungs.old c.args.rungs.new c.args.marks.now c.in_ok-start.start c.write_each.new.marks
    c.in_ok-start.ensures (c.find_same-found.ensures c.if-found.true) c.write_each.ensures.same

pub returns-else-as_long-clause-same : goal.returns-else-as_long-clause-same
returns-else-as_long-clause-same c =
    rungs_spoiled c.args.versions.matching.now c.args.versions.old.now c.args.versions.new.now c.args.rungs.old c.args.rungs.new c.args.marks.now c.spoil_rung.new.marks
    c.spoil_rung-else-as_long.new.marks c.spoil_rung.ensures c.spoil_rung-else-as_long.ensures
