use Rattle.std.proofs.Common.{◌∙◌, ◌++◌, [], ap, length, sym, append_assoc}
use Rattle.diagram_declarations.specs.Decls.{Declared}
use Rattle.io_text.specs.Text.{lines_text}
use Rattle.io_text.proofs.Sending.{sends_prefix, sends_last, sends_more, sends_none, sends_err}
use Rattle.text_state.specs.StateText.{item_records}
use Rattle.text_state.specs.declared.version.Version.TheVariants.{Second}
use Rattle.text_state.proofs.Segments.{block_count}
use Rattle.text_state.proofs.Written.{blocks_text, items_text, memories_text, values_text}
use Rattle.text_state.proofs.write.add_items.Goals as goal

pub add_blocks-requires : goal.add_blocks-requires
add_blocks-requires g c = block_count c.args.program.now c.args.state.now c.requires ∙ sym (ap length (c.instances.ensures.value ∙ ap (λ (d : Declared). d.instances) c.decls-2.ensures))

pub returns-in_err-add_vars : goal.returns-in_err-add_vars
returns-in_err-add_vars g c = sends_err _ _ _ _ _ _ c.from_residual.ensures.0
    (let p = c.args.program.now in
    let s = c.args.state.now in
    sends_prefix _ _ _ c.args.buffer.now c.args.buffer.now (lines_text (item_records Second p s)) [] (values_text p s) (memories_text p s ++ blocks_text p s) (items_text p s)
    (sends_none _ c.args.buffer.now) (rw (c.vars.ensures.value, c.decls.ensures) at c.in_err-add_vars.ensures))

pub returns-in_err-add_memories : goal.returns-in_err-add_memories
returns-in_err-add_memories g c = sends_err _ _ _ _ _ _ c.from_residual-in_err-add_memories.ensures.0
    (let p = c.args.program.now in
    let s = c.args.state.now in
    sends_prefix _ _ _ _ _ (lines_text (item_records Second p s)) (values_text p s) (memories_text p s) (blocks_text p s) (items_text p s)
    (rw (c.vars.ensures.value, c.decls.ensures) at c.in_ok-add_vars.ensures) c.in_err-add_memories.ensures)

pub returns : goal.returns
returns g c =
    let p = c.args.program.now in
    let s = c.args.state.now in
    sends_last _ _ _ _ _ _ (lines_text (item_records Second p s)) (values_text p s ++ memories_text p s) (blocks_text p s) _
    (items_text p s ∙ sym (append_assoc (values_text p s) (memories_text p s) (blocks_text p s)))
    (sends_more _ _ _ _ _ _ (values_text p s) (memories_text p s) (rw (c.vars.ensures.value, c.decls.ensures) at c.in_ok-add_vars.ensures) c.in_ok-add_memories.ensures)
    (rw (c.instances.ensures.value, c.decls-2.ensures) at c.add_blocks.ensures)
