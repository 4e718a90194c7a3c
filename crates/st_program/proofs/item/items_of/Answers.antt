use Rattle.st_program.proofs.Itemized.{item_next, comparison_next, items_all}
use Rattle.st_program.proofs.item.items_of.Goals as goal

pub loop-word-preserved : goal.loop-word-preserved
loop-word-preserved c =
    rw c.in_ok-push-in_default-comparison_at.ensures.items
    (item_next _ _ _ _ _ _ _ _ _ _ c.loop-word.invariant c.in-Some.ensures.first c.item_of-item.ensures c.is_loose-may_compare.ensures)

pub loop-word-preserved-then-may_compare : goal.loop-word-preserved-then-may_compare
loop-word-preserved-then-may_compare c =
    rw c.in_ok-add_comparison-in-Some-comparison_at.ensures
    (comparison_next _ _ _ _ _ _ _ _ _ _ c.loop-word.invariant c.if-may_compare.true c.in-Some-comparison_at.ensures)

pub returns : goal.returns
returns c = items_all _ _ _ _ _ _ c.loop-word.invariant c.in_default.ensures.none
