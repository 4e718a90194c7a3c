use Rattle.std.proofs.lemmas.List.Folds.{list_all_at}
use Rattle.reach_runs.specs.Asking.{is_so}
use Rattle.reach_search.proofs.shutting.is_shut_out.Goals as goal

pub returns-then-is_denied : goal.returns-then-is_denied
returns-then-is_denied c = λ _ h so.
    list_all_at (is_so h) c.args.literals.now c.loop-number.number _ c.loop-number-test.true (c.is_denied.ensures c.if-is_denied.true h so)
