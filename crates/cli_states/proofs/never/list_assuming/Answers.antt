use Rattle.std.proofs.Common.{inl, inr, refl}
use Rattle.cli_states.proofs.never.list_assuming.Goals as goal

pub returns-in-Err-clause-failed : goal.returns-in-Err-clause-failed
returns-in-Err-clause-failed g c = λ save status. inl (record {
  reason = c.in-Err.fault;
  has = inr (c.args.setting.now.program, c.args.setting.now.state, c.requires.set, inl (rw c.as_slice-expressions.ensures.value at c.in-Err.ensures.fault));
  unwritten = refl {a = g.O.Sink.log c.args.out.now};
  unsaved = refl {a = save};
  reported = c.report.ensures.line;
})
