use Rattle.std.proofs.Common.{◌⊎◌, inl, inr, refl, subst}
use Rattle.cli_inputs.specs.Reports.{logs}
use Rattle.cli_inputs.specs.Setting.{given_by}
use Rattle.cli_questions.specs.Query.{question_of}
use Rattle.cli_diff.specs.Assumed.{Assumption, IsEverTrueInBoth}
use Rattle.cli_diff.specs.AssumedEnding.{BreaksOffAssumed, CountsAssumed, IsRefusedAssuming}
use Rattle.cli_diff.specs.Ending.{RefusesOf}
use Rattle.cli_diff.proofs.Endings.{refuses_as}
use Rattle.cli_diff.proofs.comparing.compare_assuming.Goals as goal

pub returns-in-Err-clause-failed : goal.returns-in-Err-clause-failed
returns-in-Err-clause-failed g c = λ save status.
    let e = c.in-Err.fault in
    rw c.requires.assuming (inl (record {
      side = e.side;
      reason = e.fault;
      has = inr (question_of c.args.asked.now.of_old, question_of c.args.asked.now.of_new, c.requires.asked, inl c.in-Err.ensures.fault);
      unwritten = refl {a = g.O.Sink.log c.args.out.now};
      unsaved = refl {a = save};
      reported = c.report.ensures.line;
    }))

pub returns-clause-done : goal.returns-clause-done
returns-clause-done g c = λ save status.
    let r = c.args.request.now in
    let read = c.in-Ok.read in
    let old = question_of c.args.asked.now.of_old in
    let new = question_of c.args.asked.now.of_new in
    let before = logs (g.O.Sink.log c.args.out.now) save (g.E.Sink.log c.args.err.now) in
    let after = logs (g.O.Sink.log c.compare_counted-status.new.out) save (g.E.Sink.log c.compare_counted-status.new.err) in
    let h = subst (λ (a : Assumption). IsEverTrueInBoth a.old a.new old new × CountsAssumed r.form a r old new before after) c.assumed_by.ensures (c.compare_counted-status.ensures.done save status) in
    rw c.requires.assuming (record {
      old = old;
      new = new;
      asked = c.requires.asked;
      assumption = record { old = read.old; new = read.new; expressions = read.expressions };
      assumed = c.in-Ok.ensures.read;
      ever_true = h.0;
      written = h.1;
    })

pub returns-clause-failed : goal.returns-clause-failed
returns-clause-failed g c = λ save status.
    let r = c.args.request.now in
    let g_old = given_by c.args.texts.now.old in
    let g_new = given_by c.args.texts.now.new in
    let read = c.in-Ok.read in
    let old = question_of c.args.asked.now.of_old in
    let new = question_of c.args.asked.now.of_new in
    let before = logs (g.O.Sink.log c.args.out.now) save (g.E.Sink.log c.args.err.now) in
    let after = logs (g.O.Sink.log c.compare_counted-status.new.out) save (g.E.Sink.log c.compare_counted-status.new.err) in
    let h = subst (λ (a : Assumption). RefusesOf g_old g_new (IsRefusedAssuming r.form a old new) before after
    ⊎ (IsEverTrueInBoth a.old a.new old new × BreaksOffAssumed r.form g_old a r old new before after)) c.assumed_by.ensures (c.compare_counted-status.ensures.failed save status) in
    rw c.requires.assuming (elim h [
      | inl h ↦ inl (refuses_as g_old g_new _ _ before after
          (λ side f has. inr (old, new, c.requires.asked, inr (record { old = read.old; new = read.new; expressions = read.expressions }, c.in-Ok.ensures.read, has))) h)
      | inr h ↦ inr (record {
        old = old;
        new = new;
        asked = c.requires.asked;
        assumption = record { old = read.old; new = read.new; expressions = read.expressions };
        assumed = c.in-Ok.ensures.read;
        ever_true = h.0;
        written = h.1;
      })
    ])
