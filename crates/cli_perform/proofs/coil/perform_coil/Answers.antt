use Rattle.std.proofs.Common.{inr}
use Rattle.cli_perform.proofs.coil.perform_coil.Goals as goal

pub returns-in-Ok-clause-done : goal.returns-in-Ok-clause-done
returns-in-Ok-clause-done g c = λ status. (
  g.E.Sink.log c.put_coil-named.new.err,
  rw (c.is_quiet.ensures, c.as_str.ensures.value) at c.in-Ok.ensures,
  rw c.ask_of.ensures at (c.perform.ensures.done status),
)

pub returns-in-Ok-clause-failed : goal.returns-in-Ok-clause-failed
returns-in-Ok-clause-failed g c = λ status. inr (
  g.E.Sink.log c.put_coil-named.new.err,
  rw (c.is_quiet.ensures, c.as_str.ensures.value) at c.in-Ok.ensures,
  rw c.ask_of.ensures at (c.perform.ensures.failed status),
)
