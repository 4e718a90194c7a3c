use Rattle.std.proofs.Common.{◌≡◌, ◌∙◌, ap, inl, inr, refl, sym, length, true}
use Rattle.std.specs.Prelude.{◌==◌}
use Rattle.cli_inputs.specs.Reports.{HasCauseFault}
use Rattle.cli_inputs.specs.Setting.{given_by}
use Rattle.cli_questions.specs.Ending.{IsAsked, names_of}
use Rattle.cli_questions.specs.Query.{question_of}
use Rattle.cli_questions.proofs.Endings.{before_asking, refuses_as}
use Rattle.cli_lists.specs.Assumed.{CausesRefusal, assumes_nothing}
use Rattle.cli_lists.specs.Lists.{list_refusal}
use Rattle.cli_lists.proofs.progress.list_progress.Goals as goal

pub returns-in-Err-clause-failed : goal.returns-in-Err-clause-failed
returns-in-Err-clause-failed g c = λ save status.
    let r = c.args.request.now in
    inl (record {
      reason = c.in-Err.fault;
      has = before_asking (given_by c.args.texts.now) (names_of r) (IsAsked (given_by c.args.texts.now) r) (CausesRefusal (assumes_nothing r) r c.args.after c.args.upto) c.in-Err.fault c.in-Err.ensures.fault;
      unwritten = refl {a = g.O.Sink.log c.args.out.now};
      unsaved = refl {a = save};
      reported = c.report.ensures.line;
    })

pub returns-then-is_empty-clause-done : goal.returns-then-is_empty-clause-done
returns-then-is_empty-clause-done g c = λ save status.
    let nothing : assumes_nothing c.args.request.now ≡ true = ap (λ xs. length xs == 0) (sym c.as_slice.ensures.value) ∙ sym c.is_empty.ensures ∙ c.if-is_empty.true in
    let h = c.tell_asked.ensures.done save status in
    rw nothing (record { question = question_of c.in-Ok.asked; asked = c.in-Ok.ensures.asked; accepted = h.0; written = h.1 })

pub returns-then-is_empty-clause-failed : goal.returns-then-is_empty-clause-failed
returns-then-is_empty-clause-failed g c = λ save status.
    let q = question_of c.in-Ok.asked in
    let nothing : assumes_nothing c.args.request.now ≡ true = ap (λ xs. length xs == 0) (sym c.as_slice.ensures.value) ∙ sym c.is_empty.ensures ∙ c.if-is_empty.true in
    rw nothing (elim (c.tell_asked.ensures.failed save status) [
      | inl h ↦ inl (refuses_as (given_by c.args.texts.now) (HasCauseFault (list_refusal c.args.after c.args.upto q)) _ _ _ (λ f has. inr (inr (q, c.in-Ok.ensures.asked, has))) h)
      | inr h ↦ inr (record { question = q; asked = c.in-Ok.ensures.asked; accepted = h.0; written = h.1 })
    ])

pub tell_assuming-requires-clause-assuming : goal.tell_assuming-requires-clause-assuming
tell_assuming-requires-clause-assuming g c = ap (λ xs. length xs == 0) (sym c.as_slice.ensures.value) ∙ sym c.is_empty.ensures ∙ c.if-is_empty.false
