use Rattle.std.proofs.Common.{◌≡◌, ◌∙◌, ap, ap₂, inl, inr, length, refl, sym}
use Rattle.std.specs.Prelude.{option_map, string_bytes}
use Rattle.std.proofs.lemmas.List.{length-map}
use Rattle.cli_inputs.specs.declared.fault.ToolFault.TheVariants as fault
use Rattle.cli_inputs.proofs.Ends.{all_same, prefix_same}
use Rattle.cli_questions.specs.declared.counting.ListCounts.TheVariants as counts
use Rattle.cli_questions.specs.Ending.{counts_line, unless_quiet}
use Rattle.cli_states.specs.Never.{texts_of}
use Rattle.cli_states.proofs.never.list_where_true.Goals as goal

pub returns-in-Err-clause-failed : goal.returns-in-Err-clause-failed
returns-in-Err-clause-failed g c = λ save status. inl (record {
  reason = c.in-Err.fault;
  has = inr (
    c.args.setting.now.program,
    c.args.setting.now.state,
    c.requires.set,
    inr (option_map (λ e. e.now) c.args.assumed, c.requires.read, c.in-Err.ensures.refused),
  );
  unwritten = refl {a = g.O.Sink.log c.args.out.now};
  unsaved = refl {a = save};
  reported = c.report.ensures.line;
})

pub returns-in_default-clause-failed : goal.returns-in_default-clause-failed
returns-in_default-clause-failed g c = λ save status. inl (record {
  reason = fault.Memory;
  has = inl (inr refl);
  unwritten = refl {a = g.O.Sink.log c.args.out.now};
  unsaved = refl {a = save};
  reported = c.report-in_default.ensures.line;
})

pub returns-in_default-write_never-clause-failed : goal.returns-in_default-write_never-clause-failed
returns-in_default-write_never-clause-failed g c = λ save status.
    let made = c.in-Ok-staying_where_true.ensures in
    inr (inl ((
      record {
        program = c.args.setting.now.program;
        state = c.args.setting.now.state;
        set = c.requires.set;
        assumed = option_map (λ e. e.now) c.args.assumed;
        read = c.requires.read;
        may = c.in-Ok.ensures.satisfiable;
        staying = c.in-Ok-staying_where_true.staying;
        stays = made.stays;
        told = made.told;
        so = made.so;
        rows = c.in_default-write_never.ensures.wrote;
      },
      c.report-in_default-write_never.ensures.line,
    )))

pub returns-in_default-put_counts-clause-failed : goal.returns-in_default-put_counts-clause-failed
returns-in_default-put_counts-clause-failed g c = λ save status.
    let made = c.in-Ok-staying_where_true.ensures in
    let w = c.in-Ok-write_never in
    let many : length c.as_slice-expressions.result.now ≡ length (texts_of c.args.request.now) = ap length c.as_slice-expressions.ensures.value ∙ sym (length-map c.args.request.now.assumed.items string_bytes) in
    inr (inr (record {
      list = record {
        program = c.args.setting.now.program;
        state = c.args.setting.now.state;
        set = c.requires.set;
        assumed = option_map (λ e. e.now) c.args.assumed;
        read = c.requires.read;
        may = c.in-Ok.ensures.satisfiable;
        staying = c.in-Ok-staying_where_true.staying;
        stays = made.stays;
        told = made.told;
        so = made.so;
        rows = w.ensures.wrote;
      };
      count = prefix_same _ _ _ _ (ap₂ (λ n k. unless_quiet c.args.request.now.quiet (counts_line (counts.AssumedRows n k))) w.ensures.rows many) c.in_default-put_counts.ensures;
    }))

pub returns-clause-done : goal.returns-clause-done
returns-clause-done g c = λ status.
    let made = c.in-Ok-staying_where_true.ensures in
    let w = c.in-Ok-write_never in
    let many : length c.as_slice-expressions.result.now ≡ length (texts_of c.args.request.now) = ap length c.as_slice-expressions.ensures.value ∙ sym (length-map c.args.request.now.assumed.items string_bytes) in
    record {
      list = record {
        program = c.args.setting.now.program;
        state = c.args.setting.now.state;
        set = c.requires.set;
        assumed = option_map (λ e. e.now) c.args.assumed;
        read = c.requires.read;
        may = c.in-Ok.ensures.satisfiable;
        staying = c.in-Ok-staying_where_true.staying;
        stays = made.stays;
        told = made.told;
        so = made.so;
        rows = w.ensures.wrote;
      };
      count = all_same _ _ _ _ (ap₂ (λ n k. unless_quiet c.args.request.now.quiet (counts_line (counts.AssumedRows n k))) w.ensures.rows many) c.in-Ok-put_counts.ensures;
    }
