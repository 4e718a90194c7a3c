use Rattle.std.proofs.Common.{◌≤◌, arith}
use Rattle.reach_runs.specs.Asking.{question_of}
use Rattle.reach_search.specs.Sets.{count_of}
use Rattle.reach_search.proofs.LevelLaws.{level_done, level_last}
use Rattle.reach_search.proofs.levels.end_level.Goals as goal

pub deepen-requires-clause-done : goal.deepen-requires-clause-done
deepen-requires-clause-done c = λ none.
    level_done (question_of c.args.query) c.args.search.now.set c.args.level.now (c.requires.level.begun none c.requires.begun) c.requires.end

pub returns-else-level-clause-ending : goal.returns-else-level-clause-ending
returns-else-level-clause-ending c = λ _.
    let all : count_of c.args.search.now.set ≤ c.args.level.now.end = omega (arith, c.count.ensures, c.if-level-count.false) in
    level_last (question_of c.args.query) c.args.search.now.set c.args.level.now (c.requires.level.begun c.if-level.false c.requires.begun) c.requires.end all
