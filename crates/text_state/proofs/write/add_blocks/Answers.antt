use Rattle.std.proofs.Common.{arith, subst, take_all}
use Rattle.io_text.specs.Text.{lines_text}
use Rattle.io_text.proofs.Lines.{line_prefix, line_more}
use Rattle.text_state.specs.Parts.{block_item, block_records, each}
use Rattle.text_state.specs.declared.version.Version.TheVariants.{Second}
use Rattle.io_text.specs.Buffer.{SendsAll}
use Rattle.text_state.proofs.Written.{one_written, written_apart}
use Rattle.io_text.proofs.Sending.{sends_err}
use Rattle.text_state.proofs.write.add_blocks.Goals as goal

pub loop-number-preserved : goal.loop-number-preserved
loop-number-preserved g c =
    line_more _ _ _ _ _ _ _ _ _ (one_written block_item c.args.instances.now c.args.state.now.held.kept.blocks c.loop-number.number c.index-instances-number.result c.block.result
    c.loop-number-test.true c.index-instances-number.is c.block.ensures) c.loop-number.invariant (rw (c.bytes-name.ensures.spelling, ← c.index-instances-number.is) at c.in_ok-add_block.ensures)

pub returns-in_err-add_block : goal.returns-in_err-add_block
returns-in_err-add_block g c = sends_err _ _ _ _ _ _ c.from_residual.ensures.0
    (line_prefix _ _ _ _ _ _ _ _ _ (written_apart block_item c.args.instances.now c.args.state.now.held.kept.blocks c.loop-number.number c.index-instances-number.result c.block.result
    c.loop-number-test.true c.index-instances-number.is c.block.ensures) c.loop-number.invariant (rw (c.bytes-name.ensures.spelling, ← c.index-instances-number.is) at c.in_err-add_block.ensures))

pub returns : goal.returns
returns g c =
    let all = take_all c.loop-number.number c.args.instances.now (omega arith) in
    subst (λ xs. SendsAll (g.W.Sink.log c.args.writer.now) (g.W.Sink.log c.loop-number.writer) c.args.buffer.now c.loop-number.buffer (lines_text (each (block_records Second) xs c.args.state.now.held.kept.blocks)))
    all c.loop-number.invariant
