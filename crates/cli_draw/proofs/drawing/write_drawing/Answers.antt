use Rattle.std.proofs.Common.{inl, inr, refl}
use Rattle.cli_draw.proofs.drawing.write_drawing.Goals as goal

pub returns-in-Ok-put-clause-done : goal.returns-in-Ok-put-clause-done
returns-in-Ok-put-clause-done g c = λ status. (
  record {
    program = c.in-Ok.drawn.program;
    is = c.in-Ok.ensures.read;
    bytes = c.deref.result.now;
    drawn = rw c.deref.ensures.value c.in-Ok.ensures.drawn;
    written = c.in-Ok-put.ensures;
  },
  refl,
)

pub returns-in-Ok-clause-failed : goal.returns-in-Ok-clause-failed
returns-in-Ok-clause-failed g c = λ status. inr (
  record {
    program = c.in-Ok.drawn.program;
    is = c.in-Ok.ensures.read;
    bytes = c.deref.result.now;
    drawn = rw c.deref.ensures.value c.in-Ok.ensures.drawn;
    written = c.in-Err-put.ensures;
  },
  c.report_unread.ensures.line,
)

pub returns-clause-failed : goal.returns-clause-failed
returns-clause-failed g c = λ status. inl (refl, record { reason = c.in-Err.fault; said = c.told.ensures.said })
