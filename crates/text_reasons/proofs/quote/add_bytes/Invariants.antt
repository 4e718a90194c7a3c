use Rattle.std.proofs.Common.{map, take}
use Rattle.io_text.specs.Buffer.{SendsAll}
use Rattle.text_reasons.specs.Reasons.{quoted_byte}
use Rattle.text_reasons.proofs.quote.add_bytes.Given as goal

-- What was added so far.
abbrev pub invariant-loop-byte : goal.invariant-loop-byte
invariant-loop-byte g l =
    SendsAll (g.W.Sink.log l.fn.writer) (g.W.Sink.log l.writer) l.fn.buffer l.buffer (map quoted_byte (take l.byte-index l.bytes))
