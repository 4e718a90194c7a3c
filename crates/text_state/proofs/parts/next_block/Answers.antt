use Rattle.scan_cycle.specs.Standing.{CanStore}
use Rattle.text_state.specs.StateText.{block_record}
use Rattle.text_state.proofs.ItemByItem.{item_missing, item_read}
use Rattle.text_state.proofs.parts.next_block.Goals as goal

pub returns-then-not-found-clause-takes : goal.returns-then-not-found-clause-takes
returns-then-not-found-clause-takes c = λ rows left.
    item_missing (block_record c.args.instance.now.name) (CanStore c.args.instance.now.kind c.args.moment) rows c.in_ok-found.found _ _ c.if-not-found.true (c.in_ok-found.ensures.takes rows left)

pub returns-clause-takes : goal.returns-clause-takes
returns-clause-takes c = λ rows left.
    item_read (block_record c.args.instance.now.name) (CanStore c.args.instance.now.kind c.args.moment) rows c.in_ok-found.found _ _ c.read_block.result c.if-not-found.false (c.in_ok-found.ensures.takes rows left)
    c.read_block.ensures.some c.read_block.ensures.record c.read_block.ensures.none
