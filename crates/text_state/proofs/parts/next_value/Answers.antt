use Rattle.std.specs.Prelude.{⊤}
use Rattle.text_state.specs.StateText.{var_record}
use Rattle.text_state.proofs.ItemByItem.{always, item_missing, item_read}
use Rattle.text_state.proofs.parts.next_value.Goals as goal

pub returns-then-not-found-clause-takes : goal.returns-then-not-found-clause-takes
returns-then-not-found-clause-takes c = λ rows left.
    item_missing (var_record c.args.var.now) (λ _. ⊤) rows c.in_ok-found.found _ _ c.if-not-found.true (c.in_ok-found.ensures.takes rows left)

pub returns-clause-takes : goal.returns-clause-takes
returns-clause-takes c = λ rows left.
    item_read (var_record c.args.var.now) (λ _. ⊤) rows c.in_ok-found.found _ _ c.read_var.result c.if-not-found.false (c.in_ok-found.ensures.takes rows left) (always c.read_var.result)
    c.read_var.ensures.some (λ e y _. c.read_var.ensures.none e y)
