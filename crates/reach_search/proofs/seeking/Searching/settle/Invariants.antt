use Rattle.reach_runs.specs.Asking.{question_of}
use Rattle.reach_search.specs.Levels.{IsSearching}
use Rattle.reach_search.proofs.seeking.Searching.settle.Given as goal

abbrev pub invariant-loop : goal.invariant-loop
invariant-loop l = IsSearching (question_of l.query) l.self
