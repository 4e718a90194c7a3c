use Rattle.std.proofs.Common.{refl, inl, inr}
use Rattle.cli_export.proofs.exporting.write_export.Goals as goal

pub returns-in-Err-clause-failed : goal.returns-in-Err-clause-failed
returns-in-Err-clause-failed g c = λ save status. inl (record {
  reason = c.in-Err.fault;
  has = c.in-Err.ensures.fault;
  unwritten = refl {a = g.O.Sink.log c.args.out.now};
  unsaved = refl {a = save};
  reported = c.report.ensures.line;
})

pub returns-clause-failed : goal.returns-clause-failed
returns-clause-failed g c = λ save status. inr (c.write_program.ensures.failed status)
