use Rattle.io_text.specs.Log.{PutsAll}
use Rattle.reach_runs.specs.Asking.{question_of}
use Rattle.reach_search.specs.Levels.{IsSearching}
use Rattle.cli_reach.specs.Telling.{TellsSteps}
use Rattle.cli_reach.proofs.seeking.settle_telling.Given as goal

abbrev pub invariant-loop : goal.invariant-loop
invariant-loop g l = record {
  searching : IsSearching (question_of l.fn.query) l.searching;
  told : TellsSteps l.fn.lines (question_of l.fn.query) (PutsAll (g.E.Sink.log l.fn.err) (g.E.Sink.log l.err));
}
