use Rattle.std.proofs.lemmas.List.Elements.{Contains-get_or}
use Rattle.invariant_cases.proofs.partners.next_forced.Goals as goal

pub returns-in-Some-clause-forced : goal.returns-in-Some-clause-forced
returns-in-Some-clause-forced c = c.in-Some.ensures c.args.pairs.now (Contains-get_or c.args.pairs.now c.loop-number.number _ c.loop-number-test.true)
