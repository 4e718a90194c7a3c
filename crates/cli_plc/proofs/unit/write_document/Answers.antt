use Rattle.std.proofs.Common.{inl, inr, refl}
use Rattle.xml_document.specs.Items.{items_of}
use Rattle.cli_plc.specs.Lines.{unit_text}
use Rattle.cli_plc.proofs.Saying.{either}
use Rattle.cli_plc.proofs.unit.write_document.Goals as goal

pub returns-in-Ok-put-clause-done : goal.returns-in-Ok-put-clause-done
returns-in-Ok-put-clause-done g c = λ status. (
  record {
    document = items_of c.args.document.now;
    is = c.requires;
    drawn = c.deref.result.now;
    imported = rw c.deref.ensures.value c.in-Ok.ensures;
    written = c.in-Ok-put.ensures;
  },
  refl,
)

pub returns-in-Ok-clause-failed : goal.returns-in-Ok-clause-failed
returns-in-Ok-clause-failed g c = λ status. inr (
  record {
    document = items_of c.args.document.now;
    is = c.requires;
    drawn = c.deref.result.now;
    imported = rw c.deref.ensures.value c.in-Ok.ensures;
    written = c.in-Err-put.ensures;
  },
  c.report_unread.ensures.line,
)

pub returns-clause-failed : goal.returns-clause-failed
returns-clause-failed g c = λ status. inl (
  refl,
  record {
    said = unit_text c.args.why c.args.document.now c.in-Err.fault;
    is = inr (c.args.document.now, c.in-Err.fault, c.requires, refl);
    written = either _ _ _ _ c.write_fault.ensures;
  },
)
