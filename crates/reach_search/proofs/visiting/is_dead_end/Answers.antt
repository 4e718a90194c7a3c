use Rattle.std.proofs.Common.{◌∙◌, rules}
use Rattle.std.proofs.lemmas.List.{places, with_items_is}
use Rattle.reach_search.proofs.visiting.is_dead_end.Goals as goal

pub returns-clause-inputs : goal.returns-clause-inputs
returns-clause-inputs c =
    with_items_is c.args.search.now.inputs c.is_possible.new.inputs (search (rules, places)) ∙ c.is_possible.ensures.same ∙ c.deref_mut.ensures.value
