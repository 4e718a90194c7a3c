use Rattle.std.specs.Prelude.{⊤}
use Rattle.text_state.specs.StateText.{version_record}
use Rattle.text_state.proofs.ItemByItem.{always, item_missing, item_read}
use Rattle.text_state.proofs.read.next_version.Goals as goal

pub returns-then-not-found-clause-takes : goal.returns-then-not-found-clause-takes
returns-then-not-found-clause-takes c = λ rows left.
    item_missing version_record (λ _. ⊤) rows c.in_ok-found.found _ _ c.if-not-found.true (c.in_ok-found.ensures.takes rows left)

pub returns-clause-takes : goal.returns-clause-takes
returns-clause-takes c = λ rows left.
    item_read version_record (λ _. ⊤) rows c.in_ok-found.found _ _ c.read_version.result c.if-not-found.false (c.in_ok-found.ensures.takes rows left) (always c.read_version.result)
    c.read_version.ensures.some (λ e y _. c.read_version.ensures.none e y)
