use Rattle.std.proofs.Common.{◌≡◌, ◌∙◌, ◌<◌, List, ap, false, length, subst, sym}
use Rattle.std.specs.List.{All}
use Rattle.diagram_declarations.specs.declared.kind.BlockKind.TheVariants.{Ton}
use Rattle.scan_signals.specs.Blocks.{new_block}
use Rattle.scan_cycle.specs.Standing.{Standing, fresh, with_moment}
use Rattle.diff_matching.specs.declared.matching.Pair.{Pair}
use Rattle.diff_matching.specs.Writing.{AreInstances, IsWritten}
use Rattle.diff_matching.proofs.Carries.{carried, instances_there, variables_there}
use Rattle.diff_matching.proofs.carrying.carry.Goals as goal

pub carry_values-requires-2-clause-there : goal.carry_values-requires-2-clause-there
carry_values-requires-2-clause-there c =
    let m = c.args.matching.now in
    let q = c.args.new.now in
    let s = c.args.state.now in
    let start = c.set_moment.new.self in
    let filled = c.carry_values.new.to in
    let begins : start ≡ with_moment (fresh q) s.moment = c.set_moment.ensures ∙ ap (with_moment c.in_ok-carried.carried) c.moment.ensures
    ∙ ap (λ t. with_moment t s.moment) c.in_ok-carried.ensures.is in
    let written = subst (λ (xs : List Pair). IsWritten false xs s.held.values start.held.values filled.held.values) c.inputs.ensures c.carry_values.ensures.written in
    let there = variables_there c.requires.0 q m c.requires.1 s start filled begins written in
    subst (λ (xs : List Pair). All (λ x. x.new < length filled.held.values) xs) (sym c.variables.ensures) there

pub carry_blocks-requires-clause-instances : goal.carry_blocks-requires-clause-instances
carry_blocks-requires-clause-instances c =
    let m = c.args.matching.now in
    let q = c.args.new.now in
    let s = c.args.state.now in
    let start = c.set_moment.new.self in
    let filled = c.carry_values-2.new.to in
    let begins : start ≡ with_moment (fresh q) s.moment = c.set_moment.ensures ∙ ap (with_moment c.in_ok-carried.carried) c.moment.ensures
    ∙ ap (λ t. with_moment t s.moment) c.in_ok-carried.ensures.is in
    let blocks : filled.held.kept.blocks ≡ start.held.kept.blocks = ap (λ (t : Standing). t.held.kept.blocks) c.carry_values-2.ensures.others
    ∙ ap (λ (t : Standing). t.held.kept.blocks) c.carry_values.ensures.others in
    let kinds : filled.kinds ≡ start.kinds = ap (λ (t : Standing). t.kinds) c.carry_values-2.ensures.others ∙ ap (λ (t : Standing). t.kinds) c.carry_values.ensures.others in
    let there = instances_there c.requires.0 q m c.requires.1 s start filled begins c.requires.2 c.checked.ensures blocks kinds in
    subst (λ xs. AreInstances xs s filled) (sym c.instances.ensures) there

pub returns-clause-carried : goal.returns-clause-carried
returns-clause-carried c =
    let m = c.args.matching.now in
    let q = c.args.new.now in
    let s = c.args.state.now in
    let t1 = c.set_moment.new.self in
    let t2 = c.carry_values.new.to in
    let t3 = c.carry_values-2.new.to in
    let t4 = c.carry_blocks.new.to in
    let t5 = c.carry_memories.new.to in
    let begins : t1 ≡ with_moment (fresh q) s.moment = c.set_moment.ensures ∙ ap (with_moment c.in_ok-carried.carried) c.moment.ensures
    ∙ ap (λ t. with_moment t s.moment) c.in_ok-carried.ensures.is in
    let w2 = subst (λ (xs : List Pair). IsWritten false xs s.held.values t1.held.values t2.held.values) c.inputs.ensures c.carry_values.ensures.written in
    let w3 = subst (λ (xs : List Pair). IsWritten false xs s.held.values t2.held.values t3.held.values) c.variables.ensures c.carry_values-2.ensures.written in
    let w4 = subst (λ (xs : List Pair). IsWritten (new_block Ton) xs s.held.kept.blocks t3.held.kept.blocks t4.held.kept.blocks) c.instances.ensures c.carry_blocks.ensures.written in
    let w5 = subst (λ (xs : List Pair). IsWritten false xs s.held.kept.memories t4.held.kept.memories t5.held.kept.memories) c.memories.ensures c.carry_memories.ensures.written in
    carried c.requires.0 q m c.requires.1 s t1 t2 t3 t4 t5 begins w2 c.carry_values.ensures.others w3 c.carry_values-2.ensures.others w4 c.carry_blocks.ensures.others w5
    c.carry_memories.ensures.others
