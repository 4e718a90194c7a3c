use Rattle.std.proofs.Common.{◌∙◌, ap, map, refl}
use Rattle.std.proofs.lemmas.List.{with_items_is}
use Rattle.diagram_declarations.specs.Decls.{is_input}
use Rattle.scan_cycle.specs.Scan.{given}
use Rattle.scan_partial.proofs.Sure.{given_known, sure_by}
use Rattle.scan_partial.proofs.knowledge.Knowledge.give.Goals as goal

pub invariant_of-self : goal.invariant_of-self
invariant_of-self g c =
    let o = g.S.Operations.algebra in
    let before = c.self.inside in
    let flags = map is_input c.args.decls.now.vars in
    sure_by o g.S.Operations.value g.met.S.Signal.lattice g.B.Keep.keeping g.B.Keep.kept g.met.B.Keep.keeps
    (record { values = given flags c.args.inputs.now before.values.items; memories = before.memories.items; blocks = before.blocks.items }) _ _ _
    (with_items_is before.values c.give.new.values (c.give.auto.values ∙ c.deref_mut.ensures.len) ∙ c.give.ensures ∙ ap (given flags c.args.inputs.now) c.deref_mut.ensures.value)
    refl refl
    (given_known o g.S.Operations.value g.met.S.Signal.lattice g.B.Keep.keeping g.B.Keep.kept g.met.B.Keep.keeps
    (record { values = before.values.items; memories = before.memories.items; blocks = before.blocks.items }) flags c.args.inputs.now c.self.invariant c.requires)
