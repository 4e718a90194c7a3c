use Rattle.draw_power.proofs.Trees.{alone_first, alone_second}
use Rattle.draw_power.proofs.part.Pair.alone.Goals as goal

pub returns-in-Some-clause-same : goal.returns-in-Some-clause-same
returns-in-Some-clause-same c = λ f. alone_first _ _ _ _ (c.in-Some.ensures f) (c.turned.ensures.turned f)

pub returns-in-Some-constant-clause-same : goal.returns-in-Some-constant-clause-same
returns-in-Some-constant-clause-same c = λ f. alone_second _ _ _ _ (c.in-Some-constant.ensures f) (c.turned-in-Some-constant.ensures.turned f)
