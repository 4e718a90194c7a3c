use Rattle.std.proofs.Common.{arith}
use Rattle.reach_runs.specs.Asking.{question_of}
use Rattle.reach_search.proofs.LevelLaws.{level_deeper}
use Rattle.reach_search.proofs.levels.deepen.Goals as goal

pub returns-then-limits-depth-clause-off : goal.returns-then-limits-depth-clause-off
returns-then-limits-depth-clause-off c =
    let deeper =
    level_deeper (question_of c.args.query) c.args.search.now.set c.args.level.now c.deeper.result c.in-Some.depth c.count.result c.deeper.ensures c.requires.off c.requires.done
    (omega (arith, c.in-Some.ensures)) c.count.ensures in
    deeper.off

pub returns-clause-off : goal.returns-clause-off
returns-clause-off c =
    let deeper =
    level_deeper (question_of c.args.query) c.args.search.now.set c.args.level.now c.deeper.result c.in-Some.depth c.count.result c.deeper.ensures c.requires.off c.requires.done
    (omega (arith, c.in-Some.ensures)) c.count.ensures in
    deeper.off

pub returns-clause-level : goal.returns-clause-level
returns-clause-level c = λ _.
    level_deeper (question_of c.args.query) c.args.search.now.set c.args.level.now c.deeper.result c.in-Some.depth c.count.result c.deeper.ensures c.requires.off c.requires.done
    (omega (arith, c.in-Some.ensures)) c.count.ensures
