use Rattle.std.proofs.Common.{inl, inr, refl}
use Rattle.std.specs.Prelude.{option_map}
use Rattle.cli_inputs.specs.Reports.{HasCauseFault}
use Rattle.cli_inputs.specs.Setting.{given_by}
use Rattle.cli_questions.specs.Query.{question_of}
use Rattle.cli_questions.proofs.Endings.{refuses_as}
use Rattle.cli_assumed.specs.Assumed.{IsNeverTrue}
use Rattle.cli_lists.specs.Lists.{list_refusal}
use Rattle.cli_lists.proofs.Assumed.{few_listed, not_counted}
use Rattle.cli_lists.proofs.progress.tell_counted.Goals as goal

pub returns-in-Ok-clause-done : goal.returns-in-Ok-clause-done
returns-in-Ok-clause-done g c = λ save status.
    let list = c.args.list in
    let h = c.tell_asked.ensures.done save status in
    (c.in-Ok.ensures.possible (few_listed list.after list.upto (question_of c.args.asked.now) h.0), h.0, h.1)

pub returns-in-Ok-clause-failed : goal.returns-in-Ok-clause-failed
returns-in-Ok-clause-failed g c = λ save status.
    let list = c.args.list in
    let q = question_of c.args.asked.now in
    elim (c.tell_asked.ensures.failed save status) [
      | inl h ↦ inl (refuses_as (given_by c.args.texts.now) (HasCauseFault (list_refusal list.after list.upto q)) _ _ _ (λ f has. inl has) h)
      | inr h ↦ inr (c.in-Ok.ensures.possible (few_listed list.after list.upto q h.0), h.0, h.1)
    ]

pub returns-in-Err-clause-failed : goal.returns-in-Err-clause-failed
returns-in-Err-clause-failed g c = λ save status.
    let list = c.args.list in
    let q = question_of c.args.asked.now in
    inl (record {
      reason = c.in-Err.fault;
      has = not_counted (list_refusal list.after list.upto q) (IsNeverTrue (option_map (λ e. e.now) c.args.assumed) q) c.in-Err.fault c.in-Err.ensures.refused;
      unwritten = refl {a = g.O.Sink.log c.args.out.now};
      unsaved = refl {a = save};
      reported = c.report.ensures.line;
    })
