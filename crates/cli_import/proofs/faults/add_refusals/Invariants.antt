use Rattle.std.proofs.Common.{take}
use Rattle.io_text.specs.Buffer.{SendsAll}
use Rattle.cli_import.specs.Lines.{refusals_text}
use Rattle.cli_import.proofs.faults.add_refusals.Given as goal

abbrev pub invariant-loop-refusal : goal.invariant-loop-refusal
invariant-loop-refusal g l =
    SendsAll (g.W.Sink.log l.fn.writer) (g.W.Sink.log l.writer) l.fn.buffer l.buffer (refusals_text l.why (take l.refusal-index l.refusals))
