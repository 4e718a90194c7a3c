use Rattle.std.proofs.Common.{◌∙◌, Err, Ok, true, false, unwrap_or, ap, Some, refl, inl, inr, sym}
use Rattle.cli_inputs.specs.Setting.{given_by, stimulus_records}
use Rattle.cli_views.proofs.Endings.{same_columns, same_compared}
use Rattle.cli_views.proofs.expecting.expect_from.Goals as goal

pub returns-in-Err-clause-failed : goal.returns-in-Err-clause-failed
returns-in-Err-clause-failed g c = λ status.
    inl (record {
      reason = c.in-Err.fault;
      has = inr (c.args.setting.now.program, c.args.setting.now.state, c.requires.set, rw (c.decls-decls.ensures, c.deref.ensures.value) at c.in-Err.ensures.fault);
      unwritten = refl {a = g.O.Sink.log c.args.out.now};
      unsaved = refl {a = g.S.Sink.log c.args.save.now};
      reported = c.report.ensures.line;
    })

pub returns-in-Err-run-clause-failed : goal.returns-in-Err-run-clause-failed
returns-in-Err-run-clause-failed g c = λ status. inr (inl (
  c.in-Err-run.fault,
  g.E.Sink.log c.write_trace-run.new.err,
  _,
  _,
  record {
    program = c.args.setting.now.program;
    before = c.args.setting.now.state;
    after = c.write_trace-run.new.setting.state;
    columns = c.in-Ok.columns.items;
    set = c.requires.set;
    watched = rw (c.decls-decls.ensures, c.deref.ensures.value) at c.in-Ok.ensures.ok;
    trace = same_columns c.args.request.now.watch.progress c.args.request.now.watch.changes c.in-Ok.columns.items c.deref-2.result.now (unwrap_or c.args.request.now.watch.sim.every 0) c.args.setting.now.program c.args.setting.now.state
        c.write_trace-run.new.setting.state (stimulus_records (given_by c.args.texts.now)) _ _ (g.E.Sink.log c.args.err.now) (g.E.Sink.log c.write_trace-run.new.err)
        (Err c.in-Err-run.fault) c.deref-2.ensures.value c.in-Err-run.ensures.trace;
    untold = c.in-Err-run.ensures.untold;
    saved = refl;
  },
  refl {a = g.O.Sink.log c.args.out.now},
  rw c.kept_fault.ensures at c.report-in-Err-run.ensures.line,
))

pub returns-in-Ok-false-clause-failed : goal.returns-in-Ok-false-clause-failed
returns-in-Ok-false-clause-failed g c = λ status. inr (inr (inl (
  c.into_inner-trace.result.items,
  record {
    scans = c.in_default.field-0;
    blank = _;
    full = _;
    nothing = c.new-kept.ensures.contents ∙ ap Some c.new.ensures.items;
    whole = sym c.into_inner-trace.ensures;
    watched = record {
      program = c.args.setting.now.program;
      before = c.args.setting.now.state;
      after = c.write_trace-run.new.setting.state;
      columns = c.in-Ok.columns.items;
      set = c.requires.set;
      watched = rw (c.decls-decls.ensures, c.deref.ensures.value) at c.in-Ok.ensures.ok;
      trace = same_columns c.args.request.now.watch.progress c.args.request.now.watch.changes c.in-Ok.columns.items c.deref-2.result.now (unwrap_or c.args.request.now.watch.sim.every 0) c.args.setting.now.program c.args.setting.now.state
          c.write_trace-run.new.setting.state (stimulus_records (given_by c.args.texts.now)) _ _ (g.E.Sink.log c.args.err.now) (g.E.Sink.log c.write_trace-run.new.err)
          (Ok c.in_default.field-0) c.deref-2.ensures.value c.in_default.ensures.trace;
      untold = c.in_default.ensures.untold;
      saved = refl;
    };
  },
  same_compared _ _ _ _ (g.O.Sink.log c.args.out.now) (g.O.Sink.log c.write_difference.new.writer) (Ok c.in-Ok-false.field-0) (Ok false) c.expected.ensures c.deref-3.ensures.value (ap Ok c.in-Ok-false.field-0-test) c.in-Ok-false.ensures,
)))

pub returns-in-Err-write_difference-clause-failed : goal.returns-in-Err-write_difference-clause-failed
returns-in-Err-write_difference-clause-failed g c = λ status. inr (inr (inr (inl (
  c.in-Err-write_difference.fault,
  g.E.Sink.log c.write_trace-run.new.err,
  (
    c.into_inner-trace.result.items,
    record {
      scans = c.in_default.field-0;
      blank = _;
      full = _;
      nothing = c.new-kept.ensures.contents ∙ ap Some c.new.ensures.items;
      whole = sym c.into_inner-trace.ensures;
      watched = record {
        program = c.args.setting.now.program;
        before = c.args.setting.now.state;
        after = c.write_trace-run.new.setting.state;
        columns = c.in-Ok.columns.items;
        set = c.requires.set;
        watched = rw (c.decls-decls.ensures, c.deref.ensures.value) at c.in-Ok.ensures.ok;
        trace = same_columns c.args.request.now.watch.progress c.args.request.now.watch.changes c.in-Ok.columns.items c.deref-2.result.now (unwrap_or c.args.request.now.watch.sim.every 0) c.args.setting.now.program c.args.setting.now.state
            c.write_trace-run.new.setting.state (stimulus_records (given_by c.args.texts.now)) _ _ (g.E.Sink.log c.args.err.now) (g.E.Sink.log c.write_trace-run.new.err)
            (Ok c.in_default.field-0) c.deref-2.ensures.value c.in_default.ensures.trace;
        untold = c.in_default.ensures.untold;
        saved = refl;
      };
    },
    same_compared _ _ _ _ (g.O.Sink.log c.args.out.now) (g.O.Sink.log c.write_difference.new.writer) (Err c.in-Err-write_difference.fault) (Err c.in-Err-write_difference.fault) c.expected.ensures c.deref-3.ensures.value (refl) c.in-Err-write_difference.ensures,
  ),
  rw c.unsaid.ensures at c.report-in-Err-write_difference.ensures.line,
))))

pub returns-in_default-save_state-clause-failed : goal.returns-in_default-save_state-clause-failed
returns-in_default-save_state-clause-failed g c = λ status. inr (inr (inr (inr (
  g.E.Sink.log c.write_trace-run.new.err,
  sym c.is_some-saves.ensures ∙ c.in_default-save_state.ensures.asked,
  (
    c.into_inner-trace.result.items,
    record {
      scans = c.in_default.field-0;
      blank = _;
      full = _;
      nothing = c.new-kept.ensures.contents ∙ ap Some c.new.ensures.items;
      whole = sym c.into_inner-trace.ensures;
      watched = record {
        program = c.args.setting.now.program;
        before = c.args.setting.now.state;
        after = c.write_trace-run.new.setting.state;
        columns = c.in-Ok.columns.items;
        set = c.requires.set;
        watched = rw (c.decls-decls.ensures, c.deref.ensures.value) at c.in-Ok.ensures.ok;
        trace = same_columns c.args.request.now.watch.progress c.args.request.now.watch.changes c.in-Ok.columns.items c.deref-2.result.now (unwrap_or c.args.request.now.watch.sim.every 0) c.args.setting.now.program c.args.setting.now.state
            c.write_trace-run.new.setting.state (stimulus_records (given_by c.args.texts.now)) _ _ (g.E.Sink.log c.args.err.now) (g.E.Sink.log c.write_trace-run.new.err)
            (Ok c.in_default.field-0) c.deref-2.ensures.value c.in_default.ensures.trace;
        untold = c.in_default.ensures.untold;
        saved = rw c.in_default.ensures.program at c.in_default-save_state.ensures.broken;
      };
    },
    same_compared _ _ _ _ (g.O.Sink.log c.args.out.now) (g.O.Sink.log c.write_difference.new.writer) (Ok c.in-Ok-true.field-0) (Ok true) c.expected.ensures c.deref-3.ensures.value (ap Ok c.in-Ok-true.field-0-test) c.in-Ok-true.ensures,
  ),
  c.report-in_default-save_state.ensures.line,
))))

pub returns-clause-done : goal.returns-clause-done
returns-clause-done g c = λ status. (
  c.into_inner-trace.result.items,
  record {
    scans = c.in_default.field-0;
    blank = _;
    full = _;
    nothing = c.new-kept.ensures.contents ∙ ap Some c.new.ensures.items;
    whole = sym c.into_inner-trace.ensures;
    watched = record {
      program = c.args.setting.now.program;
      before = c.args.setting.now.state;
      after = c.write_trace-run.new.setting.state;
      columns = c.in-Ok.columns.items;
      set = c.requires.set;
      watched = rw (c.decls-decls.ensures, c.deref.ensures.value) at c.in-Ok.ensures.ok;
      trace = same_columns c.args.request.now.watch.progress c.args.request.now.watch.changes c.in-Ok.columns.items c.deref-2.result.now (unwrap_or c.args.request.now.watch.sim.every 0) c.args.setting.now.program c.args.setting.now.state
          c.write_trace-run.new.setting.state (stimulus_records (given_by c.args.texts.now)) _ _ (g.E.Sink.log c.args.err.now) (g.E.Sink.log c.write_trace-run.new.err)
          (Ok c.in_default.field-0) c.deref-2.ensures.value c.in_default.ensures.trace;
      untold = c.in_default.ensures.untold;
      saved = rw (c.in_default.ensures.program, c.is_some-saves.ensures) at c.in-Ok-save_state.ensures.saved;
    };
  },
  same_compared _ _ _ _ (g.O.Sink.log c.args.out.now) (g.O.Sink.log c.write_difference.new.writer) (Ok c.in-Ok-true.field-0) (Ok true) c.expected.ensures c.deref-3.ensures.value (ap Ok c.in-Ok-true.field-0-test) c.in-Ok-true.ensures,
)
