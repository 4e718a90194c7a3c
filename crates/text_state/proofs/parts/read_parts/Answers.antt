use Rattle.std.proofs.Common.{◌∙◌, ◌+◌, ap, sym, arith, length}
use Rattle.diagram_declarations.specs.Decls.{Declared}
use Rattle.scan_cycle.specs.Standing.{Standing}
use Rattle.text_state.specs.Parts.{block_records, each}
use Rattle.text_state.proofs.Arms.{all_cut, blocks_arm, both_cut, done_arm, fits_blocks, fits_memories, fits_values, further_arm, memories_arm, values_arm, values_cut}
use Rattle.text_state.proofs.parts.read_parts.Goals as goal

pub returns-in-Err-clause-items : goal.returns-in-Err-clause-items
returns-in-Err-clause-items c = λ standing rows left.
    let p = c.args.program.now in
    let vars = c.vars-vars.ensures.value ∙ ap (λ (d : Declared). d.vars) c.decls.ensures in
    let fits = fits_values p c.args.state.now c.read_values.new.state c.requires.fits c.in-Err.ensures.others (c.in-Err.ensures.values ∙ ap length vars) in
    values_arm c.args.version p c.read_values.new.state c.vars-vars.result.now rows c.read_values.new.records c.in-Err.fault vars (record { fits = fits; standing = standing }) (c.in-Err.ensures.part rows left)

pub returns-in-Err-read_memories-clause-items : goal.returns-in-Err-read_memories-clause-items
returns-in-Err-read_memories-clause-items c = λ standing rows left.
    let p = c.args.program.now in
    let vars = c.vars-vars.ensures.value ∙ ap (λ (d : Declared). d.vars) c.decls.ensures in
    let a = c.read_values.new.state in
    let s = c.read_memories.new.state in
    let fits = fits_values p c.args.state.now a c.requires.fits c.in_default.ensures.others (c.in_default.ensures.values ∙ ap length vars) in
    let fits = fits_memories p a s fits c.in-Err-read_memories.ensures.others c.in-Err-read_memories.ensures.memories in
    let h = c.in_default.ensures.part rows left in
    memories_arm c.args.version p s rows h.rest c.read_memories.new.records _ c.in-Err-read_memories.fault (record { fits = fits; standing = standing })
    (ap (λ n. 2 + n) (ap length vars)) (values_cut p a c.vars-vars.result.now rows c.read_values.new.records vars h s c.in-Err-read_memories.ensures.others) (c.in-Err-read_memories.ensures.part h.rest h.left)

pub returns-in-Err-read_blocks-clause-items : goal.returns-in-Err-read_blocks-clause-items
returns-in-Err-read_blocks-clause-items c = λ standing rows left.
    let p = c.args.program.now in
    let vars = c.vars-vars.ensures.value ∙ ap (λ (d : Declared). d.vars) c.decls.ensures in
    let instances = c.instances-instances.ensures.value ∙ ap (λ (d : Declared). d.instances) c.decls-2.ensures in
    let a = c.read_values.new.state in
    let b = c.read_memories.new.state in
    let s = c.read_blocks.new.state in
    let fits = fits_values p c.args.state.now a c.requires.fits c.in_default.ensures.others (c.in_default.ensures.values ∙ ap length vars) in
    let fits = fits_memories p a b fits c.in_default-read_memories.ensures.others c.in_default-read_memories.ensures.memories in
    let fits = fits_blocks p b s fits c.in-Err-read_blocks.ensures.others in
    let h = c.in_default.ensures.part rows left in
    let k = c.in_default-read_memories.ensures.part h.rest h.left in
    let cut = values_cut p a c.vars-vars.result.now rows c.read_values.new.records vars h b c.in_default-read_memories.ensures.others in
    let cut = both_cut p b s s rows h.rest c.read_memories.new.records cut k c.in-Err-read_blocks.ensures.others in
    blocks_arm c.args.version p s c.instances-instances.result.now rows k.rest c.read_blocks.new.records _ _ c.in-Err-read_blocks.fault (record { fits = fits; standing = standing }) instances
    (sym (ap (λ (x : Standing). x.moment) c.in-Err-read_blocks.ensures.others)) (omega (arith, ap length vars, c.memories.ensures)) cut (c.in-Err-read_blocks.ensures.part k.rest k.left)

pub returns-then-found-clause-items : goal.returns-then-found-clause-items
returns-then-found-clause-items c = λ standing rows left.
    let p = c.args.program.now in
    let vars = c.vars-vars.ensures.value ∙ ap (λ (d : Declared). d.vars) c.decls.ensures in
    let instances = c.instances-instances.ensures.value ∙ ap (λ (d : Declared). d.instances) c.decls-2.ensures in
    let a = c.read_values.new.state in
    let b = c.read_memories.new.state in
    let s = c.read_blocks.new.state in
    let fits = fits_values p c.args.state.now a c.requires.fits c.in_default.ensures.others (c.in_default.ensures.values ∙ ap length vars) in
    let fits = fits_memories p a b fits c.in_default-read_memories.ensures.others c.in_default-read_memories.ensures.memories in
    let fits = fits_blocks p b s fits c.in-Ok.ensures.others in
    let h = c.in_default.ensures.part rows left in
    let k = c.in_default-read_memories.ensures.part h.rest h.left in
    let m = c.in-Ok.ensures.part k.rest k.left in
    let cut = values_cut p a c.vars-vars.result.now rows c.read_values.new.records vars h b c.in_default-read_memories.ensures.others in
    let cut = both_cut p b s s rows h.rest c.read_memories.new.records cut k c.in-Ok.ensures.others in
    let cut = all_cut c.args.version p s c.instances-instances.result.now rows k.rest c.read_blocks.new.records instances cut m in
    further_arm c.args.version p s rows m.rest c.in-Ok-next.found _ c.next.new.records _ (record { fits = fits; standing = standing }) cut c.if-found.true (c.in-Ok-next.ensures.takes m.rest m.left)
    (omega (arith, ap length vars, c.memories.ensures, c.in-Ok.ensures.last, ap (λ l. length (each (block_records c.args.version) l s.held.kept.blocks)) instances))

pub returns-clause-items : goal.returns-clause-items
returns-clause-items c = λ standing rows left.
    let p = c.args.program.now in
    let vars = c.vars-vars.ensures.value ∙ ap (λ (d : Declared). d.vars) c.decls.ensures in
    let instances = c.instances-instances.ensures.value ∙ ap (λ (d : Declared). d.instances) c.decls-2.ensures in
    let a = c.read_values.new.state in
    let b = c.read_memories.new.state in
    let s = c.read_blocks.new.state in
    let h = c.in_default.ensures.part rows left in
    let k = c.in_default-read_memories.ensures.part h.rest h.left in
    let m = c.in-Ok.ensures.part k.rest k.left in
    let cut = values_cut p a c.vars-vars.result.now rows c.read_values.new.records vars h b c.in_default-read_memories.ensures.others in
    let cut = both_cut p b s s rows h.rest c.read_memories.new.records cut k c.in-Ok.ensures.others in
    let cut = all_cut c.args.version p s c.instances-instances.result.now rows k.rest c.read_blocks.new.records instances cut m in
    done_arm c.args.version p s rows m.rest c.in-Ok-next.found _ c.next.new.records cut c.if-found.false (c.in-Ok-next.ensures.takes m.rest m.left)
