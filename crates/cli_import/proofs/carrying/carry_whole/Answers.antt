use Rattle.std.proofs.Common.{inl, inr, refl}
use Rattle.cli_import.specs.Lines.{import_text}
use Rattle.cli_import.proofs.Saying.{either}
use Rattle.cli_import.proofs.carrying.carry_whole.Goals as goal

pub returns-in-Ok-put-clause-done : goal.returns-in-Ok-put-clause-done
returns-in-Ok-put-clause-done g c = λ status. (
  record {
    project = c.args.project.now;
    is = c.requires;
    drawn = c.deref.result.now;
    has = rw c.deref.ensures.value c.in-Ok.ensures.carried;
    written = c.in-Ok-put.ensures;
  },
  refl,
)

pub returns-in-Ok-clause-failed : goal.returns-in-Ok-clause-failed
returns-in-Ok-clause-failed g c = λ status. inr (
  record {
    project = c.args.project.now;
    is = c.requires;
    drawn = c.deref.result.now;
    has = rw c.deref.ensures.value c.in-Ok.ensures.carried;
    written = c.in-Err-put.ensures;
  },
  c.report_unread.ensures.line,
)

pub returns-clause-failed : goal.returns-clause-failed
returns-clause-failed g c = λ status. inl (
  refl,
  record {
    said = import_text c.args.options.why c.in-Err.fault;
    is = inr (inr (c.args.project.now, c.in-Err.fault, c.requires, c.in-Err.ensures.fault, refl));
    written = either _ _ _ _ c.write_import_fault.ensures;
  },
)
