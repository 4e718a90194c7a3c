use Rattle.std.proofs.Common.{Err, Ok, refl, inr}
use Rattle.cli_views.proofs.Endings.{same_waves}
use Rattle.cli_views.proofs.waving.wave.Goals as goal

pub returns-in-Ok-write_waves-clause-done : goal.returns-in-Ok-write_waves-clause-done
returns-in-Ok-write_waves-clause-done g c = λ status. (
  (
    c.in-Ok-write_waves.field-0,
    record {
      program = c.in-Ok.setting.program;
      before = c.in-Ok.setting.state;
      after = c.write_waves.new.state;
      set = c.in-Ok.ensures.set;
      waves = same_waves _ _ c.in-Ok.setting.program c.in-Ok.setting.state c.write_waves.new.state _ _ (g.O.Sink.log c.args.out.now) (g.O.Sink.log c.write_waves.new.writer) (Ok c.in-Ok-write_waves.field-0) c.stimulus.ensures c.unwrap_or.ensures
          c.in-Ok-write_waves.ensures.ends;
    },
  ),
  refl,
)

pub returns-clause-failed : goal.returns-clause-failed
returns-clause-failed g c = λ save status. inr (
  c.in-Err-write_waves.fault,
  record {
    program = c.in-Ok.setting.program;
    before = c.in-Ok.setting.state;
    after = c.write_waves.new.state;
    set = c.in-Ok.ensures.set;
    waves = same_waves _ _ c.in-Ok.setting.program c.in-Ok.setting.state c.write_waves.new.state _ _ (g.O.Sink.log c.args.out.now) (g.O.Sink.log c.write_waves.new.writer) (Err c.in-Err-write_waves.fault) c.stimulus.ensures c.unwrap_or.ensures
        c.in-Err-write_waves.ensures.ends;
  },
  c.report-in-Err-write_waves.ensures.line,
)
