use Rattle.std.proofs.Common.{inl, inr, refl}
use Rattle.cli_export.proofs.exporting.write_program.Goals as goal

pub returns-in-Ok-put-clause-done : goal.returns-in-Ok-put-clause-done
returns-in-Ok-put-clause-done g c = λ status. (
  record {
    program = c.args.program.now;
    is = c.requires;
    text = c.deref.result.now;
    exported = rw c.deref.ensures.value c.in-Ok.ensures.exported;
    written = c.in-Ok-put.ensures;
  },
  refl,
)

pub returns-in-Ok-clause-failed : goal.returns-in-Ok-clause-failed
returns-in-Ok-clause-failed g c = λ status. inr (
  record {
    program = c.args.program.now;
    is = c.requires;
    text = c.deref.result.now;
    exported = rw c.deref.ensures.value c.in-Ok.ensures.exported;
    written = c.in-Err-put.ensures;
  },
  c.report.ensures.line,
)

pub returns-clause-failed : goal.returns-clause-failed
returns-clause-failed g c = λ status. inl (
  refl,
  record {
    program = c.args.program.now;
    is = c.requires;
    reason = c.in-Err.fault;
    refused = c.in-Err.ensures.refused;
    said = rw c.decls.ensures at c.told.ensures.said;
  },
)
