use Rattle.std.specs.Prelude.{◌∷◌, []}
use Rattle.io_text.specs.Buffer.{SendsAll}
use Rattle.text_power.specs.Show.{each, shown_at}
use Rattle.text_power.proofs.show.add_shown_line.Given as goal

abbrev pub invariant-loop-at : goal.invariant-loop-at
invariant-loop-at g l =
    SendsAll (g.W.Sink.log l.fn.writer) (g.W.Sink.log l.writer) l.fn.buffer l.buffer (each (λ at. shown_at l.marks l.rung l.line l.text at ∷ []) l.at)
