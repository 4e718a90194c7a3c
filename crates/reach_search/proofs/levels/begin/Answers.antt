use Rattle.reach_runs.specs.Asking.{question_of}
use Rattle.reach_search.proofs.LevelLaws.{ended, first_done, goes_on, open_ends}
use Rattle.reach_search.proofs.levels.begin.Goals as goal

pub returns-in-Some-clause-ending : goal.returns-in-Some-clause-ending
returns-in-Some-clause-ending c =
    ended (question_of c.args.visiting.query) c.in_ok-seen.seen c.visit_first.new.search.run.items c.in-Some.ending c.in-Some.ensures c.in_ok-seen.ensures.found

pub deepen-requires-clause-done : goal.deepen-requires-clause-done
deepen-requires-clause-done c = λ none.
    let q = question_of c.args.visiting.query in
    let going = goes_on c.in_ok-seen.seen c.in-None.ensures in
    first_done q c.visit_first.new.search.set _ c.requires.first (c.requires.level.first c.requires.first)
    (c.in_ok-seen.ensures.reached (c.is_missed-level.ensures none going))

pub returns-in-None-clause-inputs : goal.returns-in-None-clause-inputs
returns-in-None-clause-inputs c = λ _. c.in_ok-seen.ensures.inputs (goes_on c.in_ok-seen.seen c.in-None.ensures)

pub returns-in-None-clause-ending : goal.returns-in-None-clause-ending
returns-in-None-clause-ending c =
    open_ends (question_of c.args.visiting.query) c.deepen.result c.visit_first.new.search.run.items c.deepen.ensures.open
