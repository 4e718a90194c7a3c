use Rattle.std.proofs.Common.{◌∙◌, ap, map, subst, sym, refl, inl, inr}
use Rattle.std.specs.Prelude.{option_map, string_bytes, unwrap_or}
use Rattle.cli_inputs.specs.declared.fault.ToolFault.{ToolFault}
use Rattle.cli_inputs.specs.Reports.{HasWordFault, IsReported, names_in}
use Rattle.cli_inputs.specs.Setting.{given_by}
use Rattle.cli_views.specs.Views.{IsViewed}
use Rattle.cli_views.proofs.Endings.{same_drawing}
use Rattle.cli_views.proofs.Plain.{drawn_plain}
use Rattle.cli_views.proofs.showing.show_from.Goals as goal

pub draw-requires-clause-drawn : goal.draw-requires-clause-drawn
draw-requires-clause-drawn g c =
    let given = given_by c.args.texts.now in
    rw c.deref-2.ensures.value (drawn_plain given.aliases given.program c.args.program.now c.requires.set.drawn)

pub returns-in-Err-clause-failed : goal.returns-in-Err-clause-failed
returns-in-Err-clause-failed g c = λ save status.
    inl (record {
      reason = c.in-Err.fault;
      has = inr (inl (c.args.program.now, c.args.state.now, c.requires.set, rw (c.decls-decls.ensures, c.deref.ensures.value) at c.in-Err.ensures.fault));
      unwritten = refl {a = g.O.Sink.log c.args.out.now};
      unsaved = refl {a = save};
      reported = c.report.ensures.line;
    })

pub returns-in-Err-inputs_of-clause-failed : goal.returns-in-Err-inputs_of-clause-failed
returns-in-Err-inputs_of-clause-failed g c = λ save status.
    let coil = c.in-Ok.asked.coil in
    let listed = c.in-Ok.asked.inputs.items in
    inl (record {
      reason = c.in-Err-inputs_of.fault;
      has = inr (inr (
        c.args.program.now,
        c.args.state.now,
        coil,
        listed,
        record { set = c.requires.set; on = rw c.decls-decls.ensures at c.in-Ok.ensures.coil; among = rw (c.decls-decls.ensures, c.deref.ensures.value) at c.in-Ok.ensures.inputs },
        c.in-Err-inputs_of.ensures.refused,
      ));
      unwritten = refl {a = g.O.Sink.log c.args.out.now};
      unsaved = refl {a = save};
      reported = c.report-in-Err-inputs_of.ensures.line;
    })

pub returns-clause-failed : goal.returns-clause-failed
returns-clause-failed g c = λ save status.
    let given = given_by c.args.texts.now in
    let v = c.args.request.now in
    let coil = c.in-Ok.asked.coil in
    let listed = c.in-Ok.asked.inputs.items in
    let viewed : IsViewed given v c.args.program.now c.args.state.now coil listed = record { set = c.requires.set; on = rw c.decls-decls.ensures at c.in-Ok.ensures.coil; among = rw (c.decls-decls.ensures, c.deref.ensures.value) at c.in-Ok.ensures.inputs } in
    elim c.in-Err-draw.ensures.failed [
      | inl memory ↦ inl (record {
        reason = c.in-Err-draw.fault;
        has = inr (inl (c.args.program.now, c.args.state.now, c.requires.set, subst (λ (f : ToolFault). HasWordFault c.args.program.now.decls (names_in (option_map string_bytes v.coil) (map string_bytes v.inputs.items)) f) (sym memory.0) tt));
        unwritten = memory.1;
        unsaved = refl {a = save};
        reported = c.report-in-Err-draw.ensures.line;
      })
      | inr part ↦ inr (
        record {
          program = c.args.program.now;
          state = c.args.state.now;
          coil = coil;
          listed = listed;
          viewed = viewed;
          accepted = c.in-Ok-inputs_of.ensures.accepted;
          as_assumed = c.in-Ok-inputs_of.ensures.assumed;
          shown = part.1.0;
          is = same_drawing given v c.args.program.now c.args.state.now c.moment-2.result coil listed c.deref-2.result.now c.deref-3.result.now
              c.in-Ok-inputs_of.inputs.items part.1.0 (c.moment-2.ensures ∙ ap (unwrap_or v.moment) c.moment.ensures) c.deref-2.ensures.value
              c.deref-3.ensures.value c.in-Ok-inputs_of.ensures.inputs part.1.1;
          written = part.1.2;
        },
        subst (λ (f : ToolFault). IsReported given (g.E.Sink.log c.args.err.now) (g.E.Sink.log c.report-in-Err-draw.new.err) f) part.0 c.report-in-Err-draw.ensures.line,
      )
    ]
