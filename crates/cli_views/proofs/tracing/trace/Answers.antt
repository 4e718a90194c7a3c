use Rattle.std.proofs.Common.{Err, Ok, refl, inl, inr}
use Rattle.cli_views.proofs.Endings.{same_stimulus}
use Rattle.cli_views.proofs.tracing.trace.Goals as goal

pub returns-in-Err-run-clause-failed : goal.returns-in-Err-run-clause-failed
returns-in-Err-run-clause-failed g c = λ status. inr (inl (
  c.in-Err-run.fault,
  record {
    program = c.in-Ok.setting.program;
    before = c.in-Ok.setting.state;
    after = c.simulate_every-run.new.state;
    set = c.in-Ok.ensures.set;
    trace = same_stimulus _ _ c.in-Ok.setting.program c.in-Ok.setting.state c.simulate_every-run.new.state _ _ (g.O.Sink.log c.args.out.now) (g.O.Sink.log c.simulate_every-run.new.writer) (Err c.in-Err-run.fault) c.stimulus.ensures c.unwrap_or.ensures c.in-Err-run.ensures.ends;
    saved = refl;
  },
  c.report-in-Err-run.ensures.line,
))

pub returns-in_default-save_state-clause-failed : goal.returns-in_default-save_state-clause-failed
returns-in_default-save_state-clause-failed g c = λ status. inr (inr (
  c.in_default.field-0,
  c.in_default-save_state.ensures.asked,
  record {
    program = c.in-Ok.setting.program;
    before = c.in-Ok.setting.state;
    after = c.simulate_every-run.new.state;
    set = c.in-Ok.ensures.set;
    trace = same_stimulus _ _ c.in-Ok.setting.program c.in-Ok.setting.state c.simulate_every-run.new.state _ _ (g.O.Sink.log c.args.out.now) (g.O.Sink.log c.simulate_every-run.new.writer) (Ok c.in_default.field-0) c.stimulus.ensures c.unwrap_or.ensures c.in_default.ensures.ends;
    saved = c.in_default-save_state.ensures.broken;
  },
  c.report-in_default-save_state.ensures.line,
))

pub returns-clause-done : goal.returns-clause-done
returns-clause-done g c = λ status. (
  c.in_default.field-0,
  record {
    program = c.in-Ok.setting.program;
    before = c.in-Ok.setting.state;
    after = c.simulate_every-run.new.state;
    set = c.in-Ok.ensures.set;
    trace = same_stimulus _ _ c.in-Ok.setting.program c.in-Ok.setting.state c.simulate_every-run.new.state _ _ (g.O.Sink.log c.args.out.now) (g.O.Sink.log c.simulate_every-run.new.writer) (Ok c.in_default.field-0) c.stimulus.ensures c.unwrap_or.ensures c.in_default.ensures.ends;
    saved = c.in-Ok-save_state.ensures.saved;
  },
  refl,
)
