use Rattle.std.proofs.Common.{ap, inl, inr, refl}
use Rattle.cli_questions.specs.Ending.{held_line, unless_quiet}
use Rattle.cli_inputs.specs.declared.fault.ToolFault.TheVariants as fault
use Rattle.cli_inputs.proofs.Ends.{all_same, prefix_same}
use Rattle.cli_states.proofs.never.list_from.Goals as goal

pub returns-in_default-clause-failed : goal.returns-in_default-clause-failed
returns-in_default-clause-failed g c = λ save status. inl (record {
  reason = fault.Memory;
  has = inr refl;
  unwritten = refl {a = g.O.Sink.log c.args.out.now};
  unsaved = refl {a = save};
  reported = c.report.ensures.line;
})

pub returns-in_default-write_never-clause-failed : goal.returns-in_default-write_never-clause-failed
returns-in_default-write_never-clause-failed g c = λ save status.
    let made = c.in-Ok.ensures in
    inr (inl ((
      record {
        program = c.args.setting.now.program;
        state = c.args.setting.now.state;
        set = c.requires.set;
        staying = c.in-Ok.staying;
        stays = made.stays;
        told = made.told;
        so = made.so;
        rows = c.in_default-write_never.ensures.wrote;
      },
      c.report-in_default-write_never.ensures.line,
    )))

pub returns-in_default-put_count-clause-failed : goal.returns-in_default-put_count-clause-failed
returns-in_default-put_count-clause-failed g c = λ save status.
    let made = c.in-Ok.ensures in
    let w = c.in-Ok-write_never in
    inr (inr (record {
      list = record {
        program = c.args.setting.now.program;
        state = c.args.setting.now.state;
        set = c.requires.set;
        staying = c.in-Ok.staying;
        stays = made.stays;
        told = made.told;
        so = made.so;
        rows = w.ensures.wrote;
      };
      count = prefix_same _ _ _ _ (ap (λ n. unless_quiet c.args.request.now.quiet (held_line n)) w.ensures.rows) c.in_default-put_count.ensures;
    }))

pub returns-clause-done : goal.returns-clause-done
returns-clause-done g c = λ status.
    let made = c.in-Ok.ensures in
    let w = c.in-Ok-write_never in
    record {
      list = record {
        program = c.args.setting.now.program;
        state = c.args.setting.now.state;
        set = c.requires.set;
        staying = c.in-Ok.staying;
        stays = made.stays;
        told = made.told;
        so = made.so;
        rows = w.ensures.wrote;
      };
      count = all_same _ _ _ _ (ap (λ n. unless_quiet c.args.request.now.quiet (held_line n)) w.ensures.rows) c.in-Ok-put_count.ensures;
    }
