use Rattle.std.proofs.Common.{inr}
use Rattle.cli_perform.proofs.assuming.perform_assuming.Goals as goal

pub returns-in-Ok-clause-done : goal.returns-in-Ok-clause-done
returns-in-Ok-clause-done g c = λ status. (
  c.assume_comments.new.request,
  rw c.as_slice.ensures.value at c.in-Ok.ensures,
  c.perform_advised.ensures.done status,
)

pub returns-in-Ok-clause-failed : goal.returns-in-Ok-clause-failed
returns-in-Ok-clause-failed g c = λ status. inr (
  c.assume_comments.new.request,
  rw c.as_slice.ensures.value at c.in-Ok.ensures,
  c.perform_advised.ensures.failed status,
)
