use Rattle.std.specs.Prelude.{map, take}
use Rattle.io_text.specs.Text.{after_commas}
use Rattle.io_text.specs.Buffer.{SendsAll}
use Rattle.text_trace.specs.Room.{chosen}
use Rattle.text_trace.specs.Trace.{is_output}
use Rattle.text_trace.proofs.trace.add_names.Given as goal

abbrev pub invariant-loop-number : goal.invariant-loop-number
invariant-loop-number g l =
    SendsAll (g.W.Sink.log l.fn.writer) (g.W.Sink.log l.writer) l.fn.buffer l.buffer (after_commas (map (λ v. v.title) (chosen (take l.number (map is_output l.vars)) l.vars)))
