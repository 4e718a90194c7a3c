use Rattle.std.proofs.Common.{take}
use Rattle.io_text.specs.Text.{lines_text}
use Rattle.text_state.specs.Parts.{block_records, each}
use Rattle.text_state.specs.declared.version.Version.TheVariants.{Second}
use Rattle.io_text.specs.Buffer.{SendsAll}
use Rattle.text_state.proofs.write.add_blocks.Given as goal

abbrev pub invariant-loop-number : goal.invariant-loop-number
invariant-loop-number g l =
    SendsAll (g.W.Sink.log l.fn.writer) (g.W.Sink.log l.writer) l.fn.buffer l.buffer (lines_text (each (block_records Second) (take l.number l.instances) l.state.held.kept.blocks))
