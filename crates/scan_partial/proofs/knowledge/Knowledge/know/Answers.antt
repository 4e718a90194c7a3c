use Rattle.std.proofs.Common.{◌∙◌}
use Rattle.std.proofs.lemmas.List.{with_items_is}
use Rattle.scan_symbolic.specs.KnownScan.{all_known}
use Rattle.scan_partial.proofs.Sure.{known_sure, sure_by}
use Rattle.scan_partial.proofs.knowledge.Knowledge.know.Goals as goal

pub invariant_of-self : goal.invariant_of-self
invariant_of-self g c =
    let o = g.S.Operations.algebra in
    let before = c.self.inside in
    sure_by o g.S.Operations.value g.met.S.Signal.lattice g.B.Keep.keeping g.B.Keep.kept g.met.B.Keep.keeps
    (all_known o g.B.Keep.keeping c.args.state.now.held) _ _ _
    (with_items_is before.values c.know_values.new.values (c.know_values.auto.values ∙ c.deref_mut.ensures.len) ∙ c.know_values.ensures)
    (with_items_is before.memories c.know_memories.new.memories (c.know_memories.auto.memories ∙ c.deref_mut-2.ensures.len) ∙ c.know_memories.ensures)
    (with_items_is before.blocks c.know_blocks.new.blocks (c.know_blocks.auto.blocks ∙ c.deref_mut-3.ensures.len) ∙ c.know_blocks.ensures)
    (known_sure o g.S.Operations.value g.met.S.Signal.lattice g.B.Keep.keeping g.B.Keep.kept g.met.B.Keep.keeps c.args.state.now.held)
