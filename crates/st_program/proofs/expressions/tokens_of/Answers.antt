use Rattle.st_program.proofs.Expressing.{begins_more, begins_empty}
use Rattle.st_program.proofs.expressions.tokens_of.Goals as goal

pub loop-item-init : goal.loop-item-init
loop-item-init c = begins_empty _ _ c.new-tokens.ensures.items

pub loop-item-preserved : goal.loop-item-preserved
loop-item-preserved c = begins_more _ _ _ _ _ _ c.loop-item.invariant c.in-Some.ensures.first c.in_ok-push.ensures.items
