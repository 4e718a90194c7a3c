use Rattle.std.proofs.Common.{Err, Ok, ap, sym, refl, inl, inr, ◌∙◌}
use Rattle.cli_inputs.specs.declared.fault.ToolFault.TheVariants as fault
use Rattle.cli_inputs.specs.Setting.{given_by}
use Rattle.text_trace.specs.declared.recording.Film.{Film}
use Rattle.cli_views.specs.Views.{title_for}
use Rattle.cli_views.proofs.Endings.{same_film}
use Rattle.cli_views.proofs.Plain.{drawn_plain}
use Rattle.cli_views.proofs.filming.film_from.Goals as goal

pub write_film-requires-clause-drawn : goal.write_film-requires-clause-drawn
write_film-requires-clause-drawn g c =
    let given = given_by c.args.texts.now in
    rw c.deref.ensures.value (drawn_plain given.aliases given.program c.args.program.now c.requires.set.drawn)

pub returns-in-Err-clause-failed :
    goal.returns-in-Err-clause-failed
returns-in-Err-clause-failed g c = λ save status.
    inl (record {
      reason = c.in-Err.fault;
      has = inr (inl (c.args.program.now, c.args.state.now, c.requires.set, rw c.decls.ensures at c.in-Err.ensures.fault));
      unwritten = refl {a = g.O.Sink.log c.args.out.now};
      unsaved = refl {a = save};
      reported = c.report.ensures.line;
    })

pub returns-in-Some-clause-failed : goal.returns-in-Some-clause-failed
returns-in-Some-clause-failed g c = λ save status.
    inl (record {
      reason = fault.Cause c.in-Some.fault;
      has = inr (inr (
        c.args.program.now,
        c.args.state.now,
        c.in-Ok.asked.coil,
        c.requires.set,
        rw c.decls.ensures at c.in-Ok.ensures.coil,
        inr (sym c.coil_refusal.ensures ∙ c.in-Some.is),
      ));
      unwritten = refl {a = g.O.Sink.log c.args.out.now};
      unsaved = refl {a = save};
      reported = c.report-in-Some.ensures.line;
    })

pub returns-in-Ok-write_film-clause-done : goal.returns-in-Ok-write_film-clause-done
returns-in-Ok-write_film-clause-done g c = λ status.
    let film : Film = record { style = c.styles_of.result.frame; title = c.as_bytes.result; text = c.deref.result; coil = c.in-Ok.asked.coil } in (
      (
        c.in-Ok-write_film.field-0,
        record {
          program = c.args.program.now;
          before = c.args.state.now;
          after = c.write_film.new.state;
          coil = c.in-Ok.asked.coil;
          set = c.requires.set;
          explained = rw c.decls.ensures at c.in-Ok.ensures.coil;
          accepted = sym c.coil_refusal.ensures ∙ c.in-None.is;
          film = film;
          is = record { drawn = c.styles_of.ensures.frame; titled = c.as_bytes.ensures.value ∙ c.title_of.ensures ∙ ap title_for c.as_str.ensures.value; described = c.deref.ensures.value; explained = refl };
          shown = same_film film c.args.program.now c.args.state.now c.write_film.new.state _ _ (g.O.Sink.log c.args.out.now) (g.O.Sink.log c.write_film.new.writer) (Ok c.in-Ok-write_film.field-0) c.stimulus.ensures
              c.in-Ok-write_film.ensures.ends;
        },
      ),
      refl,
    )

pub returns-clause-failed : goal.returns-clause-failed
returns-clause-failed g c = λ save status.
    let film : Film = record { style = c.styles_of.result.frame; title = c.as_bytes.result; text = c.deref.result; coil = c.in-Ok.asked.coil } in
    inr (
      c.in-Err-write_film.fault,
      record {
        program = c.args.program.now;
        before = c.args.state.now;
        after = c.write_film.new.state;
        coil = c.in-Ok.asked.coil;
        set = c.requires.set;
        explained = rw c.decls.ensures at c.in-Ok.ensures.coil;
        accepted = sym c.coil_refusal.ensures ∙ c.in-None.is;
        film = film;
        is = record { drawn = c.styles_of.ensures.frame; titled = c.as_bytes.ensures.value ∙ c.title_of.ensures ∙ ap title_for c.as_str.ensures.value; described = c.deref.ensures.value; explained = refl };
        shown = same_film film c.args.program.now c.args.state.now c.write_film.new.state _ _ (g.O.Sink.log c.args.out.now) (g.O.Sink.log c.write_film.new.writer) (Err c.in-Err-write_film.fault) c.stimulus.ensures
            c.in-Err-write_film.ensures.ends;
      },
      c.report-in-Err-write_film.ensures.line,
    )
