use Rattle.std.proofs.Common.{take}
use Rattle.io_text.specs.Text.{lines_text}
use Rattle.text_state.specs.Parts.{each, var_records}
use Rattle.io_text.specs.Buffer.{SendsAll}
use Rattle.text_state.proofs.write.add_vars.Given as goal

abbrev pub invariant-loop-number : goal.invariant-loop-number
invariant-loop-number g l =
    SendsAll (g.W.Sink.log l.fn.writer) (g.W.Sink.log l.writer) l.fn.buffer l.buffer (lines_text (each var_records (take l.number l.vars) l.state.held.values))
