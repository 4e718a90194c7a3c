use Rattle.std.proofs.Common.{◌≡◌, ◌∙◌, ap, inl, inr, refl, subst, sym, length, map, List, ℕ, Option}
use Rattle.std.specs.Prelude.{option_map, string_bytes}
use Rattle.std.proofs.lemmas.List.{length-map}
use Rattle.st_expression.specs.declared.expression.Expression.{Expression}
use Rattle.assume_reading.specs.Several.{AreAssumptions}
use Rattle.cli_inputs.specs.Reports.{HasCauseFault, logs}
use Rattle.cli_inputs.specs.Setting.{given_by}
use Rattle.cli_questions.specs.Query.{question_of}
use Rattle.cli_questions.proofs.Endings.{refuses_as}
use Rattle.cli_assumed.specs.Assumed.{AssumedFault, HasAssumptionFault}
use Rattle.cli_lists.specs.Assumed.{texts_of}
use Rattle.cli_lists.specs.AssumedProgress.{BreaksRows, TellsRows}
use Rattle.cli_lists.specs.Lists.{list_refusal}
use Rattle.cli_lists.proofs.progress.tell_assuming.Goals as goal

pub returns-in-Err-clause-failed : goal.returns-in-Err-clause-failed
returns-in-Err-clause-failed g c = λ save status.
    let q = question_of c.args.asked.now in
    let texts : map string_bytes c.as_slice-expressions.result.now ≡ texts_of c.args.request.now = ap (map string_bytes) c.as_slice-expressions.ensures.value in
    rw c.requires.assuming (inl (record {
      reason = c.in-Err.fault;
      has = inr (inr (q, c.requires.asked, inl (subst (λ (ts : List (List ℕ)). HasAssumptionFault q.program.decls ts c.in-Err.fault) texts c.in-Err.ensures.fault)));
      unwritten = refl {a = g.O.Sink.log c.args.out.now};
      unsaved = refl {a = save};
      reported = c.report.ensures.line;
    }))

pub returns-clause-done : goal.returns-clause-done
returns-clause-done g c = λ save status.
    let r = c.args.request.now in
    let rows = c.args.rows in
    let q = question_of c.args.asked.now in
    let texts : map string_bytes c.as_slice-expressions.result.now ≡ texts_of r = ap (map string_bytes) c.as_slice-expressions.ensures.value in
    let many : length c.as_slice-expressions.result.now ≡ length (texts_of r) = sym (length-map c.as_slice-expressions.result.now string_bytes) ∙ ap length texts in
    let assumed = option_map (λ e. e.now) c.as_ref.result in
    let h = c.tell_counted-status.ensures.done save status in
    rw c.requires.assuming (record {
      question = q;
      asked = c.requires.asked;
      assumed = assumed;
      read = subst (λ (ts : List (List ℕ)). AreAssumptions q.program.decls ts assumed) texts
          (subst (λ (a : Option Expression). AreAssumptions q.program.decls (map string_bytes c.as_slice-expressions.result.now) a) (sym c.as_ref.ensures.value) c.in-Ok.ensures.read);
      ever_true = h.0;
      accepted = h.1;
      written = subst (λ (n : ℕ). TellsRows n assumed r rows.after rows.upto q (logs (g.O.Sink.log c.args.out.now) save (g.E.Sink.log c.args.err.now))
          (logs (g.O.Sink.log c.tell_counted-status.new.out) save (g.E.Sink.log c.tell_counted-status.new.err))) many h.2;
    })

pub returns-clause-failed : goal.returns-clause-failed
returns-clause-failed g c = λ save status.
    let r = c.args.request.now in
    let rows = c.args.rows in
    let given = given_by c.args.texts.now in
    let q = question_of c.args.asked.now in
    let texts : map string_bytes c.as_slice-expressions.result.now ≡ texts_of r = ap (map string_bytes) c.as_slice-expressions.ensures.value in
    let many : length c.as_slice-expressions.result.now ≡ length (texts_of r) = sym (length-map c.as_slice-expressions.result.now string_bytes) ∙ ap length texts in
    let assumed = option_map (λ e. e.now) c.as_ref.result in
    let read : AreAssumptions q.program.decls (texts_of r) assumed = subst (λ (ts : List (List ℕ)). AreAssumptions q.program.decls ts assumed) texts
    (subst (λ (a : Option Expression). AreAssumptions q.program.decls (map string_bytes c.as_slice-expressions.result.now) a) (sym c.as_ref.ensures.value) c.in-Ok.ensures.read) in
    let old = logs (g.O.Sink.log c.args.out.now) save (g.E.Sink.log c.args.err.now) in
    let new = logs (g.O.Sink.log c.tell_counted-status.new.out) save (g.E.Sink.log c.tell_counted-status.new.err) in
    rw c.requires.assuming (elim (c.tell_counted-status.ensures.failed save status) [
      | inl h ↦ inl (refuses_as given (AssumedFault assumed (λ q. HasCauseFault (list_refusal rows.after rows.upto q)) q) _ old new
          (λ f has. inr (inr (q, c.requires.asked, inr (assumed, read, has)))) h)
      | inr h ↦ inr (record {
        question = q;
        asked = c.requires.asked;
        assumed = assumed;
        read = read;
        ever_true = h.0;
        accepted = h.1;
        written = subst (λ (n : ℕ). BreaksRows given n assumed r rows.after rows.upto q old new) many h.2;
      })
    ])
