use Rattle.std.proofs.Common.{◌∙◌, ℕ, inl, inr, length, refl, subst, sym}
use Rattle.io_text.specs.Log.{PutsAll, PutsPrefix}
use Rattle.cli_inputs.specs.declared.fault.ToolFault.TheVariants as fault
use Rattle.cli_reach.specs.Asking.{question_of}
use Rattle.cli_reach.specs.Finding.{IsFound, found_line, verdict_text}
use Rattle.cli_reach.proofs.TellingSteps.{tells_last, tells_last_cut, told_till}
use Rattle.cli_reach.proofs.reaching.reach_asked.Goals as goal

pub returns-in-Some-clause-failed : goal.returns-in-Some-clause-failed
returns-in-Some-clause-failed g c = λ save status. inl (record {
  reason = fault.Cause c.in-Some.fault;
  has = inr (inr (inr (inl (question_of c.args.asked.now, c.requires.asked, inr (sym c.refusal.ensures ∙ c.in-Some.is)))));
  unwritten = refl {a = g.O.Sink.log c.args.out.now};
  unsaved = refl {a = save};
  reported = c.report.ensures.line;
})

pub returns-in-Err-Memory-clause-failed : goal.returns-in-Err-Memory-clause-failed
returns-in-Err-Memory-clause-failed g c = λ save status.
    let right = sym c.refusal.ensures ∙ c.in_default.is in
    inr (inl (
      question_of c.args.asked.now,
      record { asked = c.requires.asked; right = right },
      inr (inl (
        record {
          between = g.E.Sink.log c.sought_of.new.err;
          told = told_till c.args.request.now.progress (question_of c.args.asked.now) _ _ c.in-Err-Memory.field-0 c.in-Err-Memory.field-0-is c.in-Err-Memory.ensures.told;
          reported = c.report-in-Err-Memory.ensures.line;
        },
        refl {a = g.O.Sink.log c.args.out.now},
      )),
    ))

pub returns-in_default-write_verdict-clause-failed : goal.returns-in_default-write_verdict-clause-failed
returns-in_default-write_verdict-clause-failed g c = λ save status.
    let q = question_of c.args.asked.now in
    let right = sym c.refusal.ensures ∙ c.in_default.is in
    let text = verdict_text q.timing q.program c.in-Ok.sought.verdict in
    inr (inl (
      q,
      record { asked = c.requires.asked; right = right },
      inr (inr (
        (
          c.found_of-found.result,
          record {
            text = text;
            is = subst (λ most. IsFound q most c.found_of-found.result text) c.most_of.ensures c.found_of-found.ensures;
            written = c.in_default-write_verdict.ensures;
          },
        ),
        record {
          between = g.E.Sink.log c.sought_of.new.err;
          told = c.in-Ok.ensures.told;
          reported = c.report-in_default-write_verdict.ensures.line;
        },
      )),
    ))

pub returns-in_default-put_found-clause-failed : goal.returns-in_default-put_found-clause-failed
returns-in_default-put_found-clause-failed g c = λ save status.
    let q = question_of c.args.asked.now in
    let right = sym c.refusal.ensures ∙ c.in_default.is in
    let text = verdict_text q.timing q.program c.in-Ok.sought.verdict in
    inr (inr (record {
      question = q;
      right = record { asked = c.requires.asked; right = right };
      found = c.found_of-found.result;
      states = c.in-Ok.sought.states;
      writes = record {
        text = text;
        is = subst (λ most. IsFound q most c.found_of-found.result text) c.most_of.ensures c.found_of-found.ensures;
        written = c.in-Ok-write_verdict.ensures;
      };
      told = tells_last_cut c.args.request.now.progress q _ _ _ (found_line c.found_of-found.result c.in-Ok.sought.states (length c.args.request.now.assumed.items)) c.in-Ok.ensures.told
          (subst (λ (n : ℕ). PutsPrefix (g.E.Sink.log c.sought_of.new.err) (g.E.Sink.log c.put_found.new.err) (found_line c.found_of-found.result c.in-Ok.sought.states n)) c.assumed_by-assumed.ensures c.in_default-put_found.ensures);
    }))

pub returns-clause-done : goal.returns-clause-done
returns-clause-done g c = λ status.
    let q = question_of c.args.asked.now in
    let right = sym c.refusal.ensures ∙ c.in_default.is in
    let text = verdict_text q.timing q.program c.in-Ok.sought.verdict in
    record {
      question = q;
      right = record { asked = c.requires.asked; right = right };
      found = c.found_of-found.result;
      states = c.in-Ok.sought.states;
      writes = record {
        text = text;
        is = subst (λ most. IsFound q most c.found_of-found.result text) c.most_of.ensures c.found_of-found.ensures;
        written = c.in-Ok-write_verdict.ensures;
      };
      told = tells_last c.args.request.now.progress q _ _ _ (found_line c.found_of-found.result c.in-Ok.sought.states (length c.args.request.now.assumed.items)) c.in-Ok.ensures.told
          (subst (λ (n : ℕ). PutsAll (g.E.Sink.log c.sought_of.new.err) (g.E.Sink.log c.put_found.new.err) (found_line c.found_of-found.result c.in-Ok.sought.states n)) c.assumed_by-assumed.ensures c.in-Ok-put_found.ensures);
    }
