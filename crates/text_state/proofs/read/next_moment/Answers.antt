use Rattle.std.specs.Prelude.{◌<◌, ◌^◌}
use Rattle.text_state.specs.Parts.{moment_record}
use Rattle.text_state.proofs.ItemByItem.{item_missing, item_read}
use Rattle.text_state.proofs.read.next_moment.Goals as goal

pub returns-then-not-found-clause-takes : goal.returns-then-not-found-clause-takes
returns-then-not-found-clause-takes c = λ rows left.
    item_missing moment_record (λ n. n < 2 ^ 64) rows c.in_ok-found.found _ _ c.if-not-found.true (c.in_ok-found.ensures.takes rows left)

pub returns-clause-takes : goal.returns-clause-takes
returns-clause-takes c = λ rows left.
    item_read moment_record (λ n. n < 2 ^ 64) rows c.in_ok-found.found _ _ c.read_moment.result c.if-not-found.false (c.in_ok-found.ensures.takes rows left) c.read_moment.ensures.small
    c.read_moment.ensures.some c.read_moment.ensures.none
