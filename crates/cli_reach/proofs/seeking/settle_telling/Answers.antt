use Rattle.std.proofs.Common.{refl}
use Rattle.reach_runs.specs.Asking.{question_of}
use Rattle.cli_reach.proofs.TellingSteps.{tells_cut, tells_more}
use Rattle.cli_reach.proofs.seeking.settle_telling.Goals as goal

pub returns-in_default-tell-clause-told : goal.returns-in_default-tell-clause-told
returns-in_default-tell-clause-told g c = tells_cut c.args.lines (question_of c.args.query) _ _ _ _ c.loop.invariant.told c.in_default-tell.ensures

pub loop-preserved : goal.loop-preserved
loop-preserved g c = record {
  searching = c.in-Ok.ensures.searching (rw c.in_default-found.is refl);
  told = tells_more c.args.lines (question_of c.args.query) _ _ _ _ c.loop.invariant.told c.in-Ok-tell.ensures;
}
