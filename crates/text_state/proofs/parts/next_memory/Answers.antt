use Rattle.std.specs.Prelude.{⊤}
use Rattle.text_state.specs.StateText.{memory_record}
use Rattle.text_state.proofs.ItemByItem.{always, item_missing, item_read}
use Rattle.text_state.proofs.parts.next_memory.Goals as goal

pub returns-then-not-found-clause-takes : goal.returns-then-not-found-clause-takes
returns-then-not-found-clause-takes c = λ rows left.
    item_missing (memory_record c.args.place) (λ _. ⊤) rows c.in_ok-found.found _ _ c.if-not-found.true (c.in_ok-found.ensures.takes rows left)

pub returns-clause-takes : goal.returns-clause-takes
returns-clause-takes c = λ rows left.
    item_read (memory_record c.args.place) (λ _. ⊤) rows c.in_ok-found.found _ _ c.read_memory.result c.if-not-found.false (c.in_ok-found.ensures.takes rows left) (always c.read_memory.result)
    c.read_memory.ensures.some (λ e y _. c.read_memory.ensures.none e y)
