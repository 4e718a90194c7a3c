use Rattle.std.proofs.Common.{map, take}
use Rattle.io_text.specs.Buffer.{SendsAll}
use Rattle.io_text.specs.Text.{after_commas}
use Rattle.io_text.proofs.line.add_fields.Given as goal

abbrev pub invariant-loop-field : goal.invariant-loop-field
invariant-loop-field g l =
    SendsAll (g.W.Sink.log l.fn.writer) (g.W.Sink.log l.writer) l.fn.buffer l.buffer (after_commas (map (λ f. f.now) (take l.field-index l.fields)))
