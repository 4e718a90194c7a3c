-- The parts are the same.
use Rattle.std.proofs.Common.{rules, true, ◌≡◌}
use Rattle.reach_search.specs.Sets.{state_at}
use Rattle.reach_search.proofs.EqLaws.{same_by_eq, same_by_ne, same_known, same_tri, same_untimed}
use Rattle.reach_search.proofs.state_set.StateSet.is_at.Goals as goal

pub returns : goal.returns
returns c = λ yes.
    let is : c.eq.result ≡ true = search rules in
    same_known (state_at c.args.self.now c.args.number) c.args.known.now
    (same_by_ne same_tri _ _ _ _ c.row.ensures.is c.values.ensures c.ne.result c.ne.ensures c.if-ne.false)
    (same_by_ne same_tri _ _ _ _ c.row-else-ne.ensures.is c.memories.ensures c.ne-else-ne.result c.ne-else-ne.ensures c.if-ne-2.false)
    (same_by_eq same_untimed _ _ _ _ c.row-2.ensures.is c.blocks-2.ensures c.eq.result c.eq.ensures is)
