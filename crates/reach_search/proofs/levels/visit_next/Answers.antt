use Rattle.std.proofs.Common.{arith, refl}
use Rattle.reach_runs.specs.Asking.{question_of}
use Rattle.reach_search.proofs.LevelLaws.{ended, goes_on, level_visited, neither}
use Rattle.reach_search.proofs.levels.visit_next.Goals as goal

pub returns-in-Some-clause-ending : goal.returns-in-Some-clause-ending
returns-in-Some-clause-ending c =
    ended (question_of c.args.visiting.query) c.in_ok-seen.seen c.visit_state.new.search.run.items c.in-Some.ending c.in-Some.ensures c.in_ok-seen.ensures.found

pub returns-in-None-clause-inputs : goal.returns-in-None-clause-inputs
returns-in-None-clause-inputs c = λ _. c.in_ok-seen.ensures.inputs (goes_on c.in_ok-seen.seen c.in-None.ensures)

pub returns-in-None-clause-level : goal.returns-in-None-clause-level
returns-in-None-clause-level c = λ _. record {
  off = c.requires.level.off;
  begun = λ none deep.
      let both = neither c.args.level.now.is_missed c.is_missed.result none in
      let here = c.in_ok-seen.ensures.visited (c.is_missed.ensures both.1 (goes_on c.in_ok-seen.seen c.in-None.ensures)) in
      level_visited (question_of c.args.visiting.query) c.args.search.now.set c.visit_state.new.search.set c.args.level.now _ (c.requires.level.begun both.0 deep)
      c.in_ok-seen.ensures.grows c.requires.more here refl refl refl refl;
  first = λ none. absurd (omega (arith, none, c.requires.begun));
}
