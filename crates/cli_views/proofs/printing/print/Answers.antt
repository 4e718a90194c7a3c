use Rattle.std.proofs.Common.{refl, inl, inr}
use Rattle.cli_inputs.specs.Setting.{given_by}
use Rattle.io_text.specs.Log.{PutsAll, PutsPrefix}
use Rattle.cli_views.proofs.Abouts.{about_prints}
use Rattle.cli_views.proofs.printing.print.Goals as goal

pub returns-in-Err-clause-failed : goal.returns-in-Err-clause-failed
returns-in-Err-clause-failed g c = λ save status. inl (record {
  reason = c.in-Err.fault;
  has = c.in-Err.ensures.fault;
  unwritten = refl {a = g.O.Sink.log c.args.out.now};
  unsaved = refl {a = save};
  reported = c.report.ensures.line;
})

pub returns-in_default-clause-failed : goal.returns-in_default-clause-failed
returns-in_default-clause-failed g c = λ save status. inr (
  about_prints c.args.about (given_by c.args.texts.now) (PutsPrefix (g.O.Sink.log c.args.out.now) (g.O.Sink.log c.put_about.new.out)) c.in-Ok.program c.in-Ok.ensures.program
      (λ told. c.in_default.ensures told),
  c.report-in_default.ensures.line,
)

pub returns-clause-done : goal.returns-clause-done
returns-clause-done g c = λ status. (
  about_prints c.args.about (given_by c.args.texts.now) (PutsAll (g.O.Sink.log c.args.out.now) (g.O.Sink.log c.put_about.new.out)) c.in-Ok.program c.in-Ok.ensures.program
      (λ told. c.in-Ok-put_about.ensures told),
  refl,
)
