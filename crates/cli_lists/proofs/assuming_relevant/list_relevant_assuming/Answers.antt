use Rattle.std.proofs.Common.{◌≡◌, ◌∙◌, ◌⊎◌, ap, inl, refl, sym, subst, length, map, true, false, List, ℕ, None, Some}
use Rattle.std.specs.Prelude.{◌==◌, string_bytes}
use Rattle.io_text.specs.Log.{PutsAll}
use Rattle.cli_inputs.specs.Reports.{HasCauseFault, Refuses, logs}
use Rattle.cli_inputs.specs.Setting.{given_by}
use Rattle.cli_questions.specs.Ending.{BreaksOff, Ends}
use Rattle.cli_questions.specs.Query.{question_of}
use Rattle.cli_questions.proofs.Endings.{ends_asked}
use Rattle.cli_assumed.specs.Assumed.{AssumingFault}
use Rattle.cli_lists.specs.Assumed.{AssumedGroupList, AssumedList, assumes_nothing, texts_of}
use Rattle.cli_lists.specs.AssumedRelevant.{AssumedGroupedBy, IsDecidedAssuming}
use Rattle.cli_lists.specs.Lists.{list_refusal}
use Rattle.cli_lists.proofs.Deciding.{assumed_relevant_failed}
use Rattle.cli_lists.proofs.assuming_relevant.list_relevant_assuming.Goals as goal

pub returns-then-is_empty-clause-done : goal.returns-then-is_empty-clause-done
returns-then-is_empty-clause-done g c = λ status.
    let nothing : assumes_nothing c.args.request.now ≡ true = ap (λ xs. length xs == 0) (sym c.as_slice-assumed.ensures.value) ∙ sym c.is_empty.ensures ∙ c.if-is_empty.true in
    rw nothing (c.list_relevant.ensures.done status)

pub returns-then-is_empty-clause-failed : goal.returns-then-is_empty-clause-failed
returns-then-is_empty-clause-failed g c = λ save status.
    let nothing : assumes_nothing c.args.request.now ≡ true = ap (λ xs. length xs == 0) (sym c.as_slice-assumed.ensures.value) ∙ sym c.is_empty.ensures ∙ c.if-is_empty.true in
    rw nothing (c.list_relevant.ensures.failed save status)

pub returns-in-Err-clause-failed : goal.returns-in-Err-clause-failed
returns-in-Err-clause-failed g c = λ save status.
    let something : assumes_nothing c.args.request.now ≡ false = ap (λ xs. length xs == 0) (sym c.as_slice-assumed.ensures.value) ∙ sym c.is_empty.ensures ∙ c.if-is_empty.false in
    rw something (inl (record {
      reason = c.in-Err.fault;
      has = inl c.in-Err.ensures.fault;
      unwritten = refl {a = g.O.Sink.log c.args.out.now};
      unsaved = refl {a = save};
      reported = c.report.ensures.line;
    }))

pub returns-in-Some-clause-done : goal.returns-in-Some-clause-done
returns-in-Some-clause-done g c = λ status.
    let r = c.args.request.now in
    let q = question_of c.in-Ok.asked in
    let something : assumes_nothing r ≡ false = ap (λ xs. length xs == 0) (sym c.as_slice-assumed.ensures.value) ∙ sym c.is_empty.ensures ∙ c.if-is_empty.false in
    let texts : map string_bytes c.as_slice-assumed.result.now ≡ texts_of r = ap (map string_bytes) c.as_slice-assumed.ensures.value in
    rw something (rw c.in-Some.is (ends_asked (IsDecidedAssuming (given_by c.args.texts.now) r) (AssumedGroupedBy (Some c.in-Some.how) r c.args.after) q c.in-Ok.ensures.decided r.quiet _ _ _
    (subst (λ (ts : List (List ℕ)). Ends (AssumedGroupList ts r.limit c.in-Some.how q) r.quiet (g.O.Sink.log c.args.out.now) (g.O.Sink.log c.list_asked.new.out)
    (PutsAll (g.E.Sink.log c.args.err.now) (g.E.Sink.log c.list_asked.new.err))) texts (c.list_asked.ensures.done status))))

pub returns-in-Some-clause-failed : goal.returns-in-Some-clause-failed
returns-in-Some-clause-failed g c = λ save status.
    let r = c.args.request.now in
    let given = given_by c.args.texts.now in
    let q = question_of c.in-Ok.asked in
    let something : assumes_nothing r ≡ false = ap (λ xs. length xs == 0) (sym c.as_slice-assumed.ensures.value) ∙ sym c.is_empty.ensures ∙ c.if-is_empty.false in
    let texts : map string_bytes c.as_slice-assumed.result.now ≡ texts_of r = ap (map string_bytes) c.as_slice-assumed.ensures.value in
    let old = logs (g.O.Sink.log c.args.out.now) save (g.E.Sink.log c.args.err.now) in
    let new = logs (g.O.Sink.log c.list_asked.new.out) save (g.E.Sink.log c.list_asked.new.err) in
    rw something (rw c.in-Some.is (assumed_relevant_failed given r c.args.after (Some c.in-Some.how) q old new c.in-Ok.ensures.decided
    (subst (λ (ts : List (List ℕ)). Refuses given (AssumingFault ts (λ q. HasCauseFault (list_refusal None None q)) q) old new ⊎ BreaksOff given (AssumedGroupList ts r.limit c.in-Some.how q) r.quiet old new)
    texts (c.list_asked.ensures.failed save status))))

pub returns-clause-done : goal.returns-clause-done
returns-clause-done g c = λ status.
    let r = c.args.request.now in
    let q = question_of c.in-Ok.asked in
    let something : assumes_nothing r ≡ false = ap (λ xs. length xs == 0) (sym c.as_slice-assumed.ensures.value) ∙ sym c.is_empty.ensures ∙ c.if-is_empty.false in
    let texts : map string_bytes c.as_slice-assumed.result.now ≡ texts_of r = ap (map string_bytes) c.as_slice-assumed.ensures.value in
    rw something (rw c.in-None.is (ends_asked (IsDecidedAssuming (given_by c.args.texts.now) r) (AssumedGroupedBy None r c.args.after) q c.in-Ok.ensures.decided r.quiet _ _ _
    (subst (λ (ts : List (List ℕ)). Ends (AssumedList ts r.limit c.args.after None q) r.quiet (g.O.Sink.log c.args.out.now) (g.O.Sink.log c.list_asked-in-None.new.out)
    (PutsAll (g.E.Sink.log c.args.err.now) (g.E.Sink.log c.list_asked-in-None.new.err))) texts (c.list_asked-in-None.ensures.done status))))

pub returns-clause-failed : goal.returns-clause-failed
returns-clause-failed g c = λ save status.
    let r = c.args.request.now in
    let given = given_by c.args.texts.now in
    let q = question_of c.in-Ok.asked in
    let something : assumes_nothing r ≡ false = ap (λ xs. length xs == 0) (sym c.as_slice-assumed.ensures.value) ∙ sym c.is_empty.ensures ∙ c.if-is_empty.false in
    let texts : map string_bytes c.as_slice-assumed.result.now ≡ texts_of r = ap (map string_bytes) c.as_slice-assumed.ensures.value in
    let old = logs (g.O.Sink.log c.args.out.now) save (g.E.Sink.log c.args.err.now) in
    let new = logs (g.O.Sink.log c.list_asked-in-None.new.out) save (g.E.Sink.log c.list_asked-in-None.new.err) in
    rw something (rw c.in-None.is (assumed_relevant_failed given r c.args.after None q old new c.in-Ok.ensures.decided
    (subst (λ (ts : List (List ℕ)). Refuses given (AssumingFault ts (λ q. HasCauseFault (list_refusal c.args.after None q)) q) old new ⊎ BreaksOff given (AssumedList ts r.limit c.args.after None q) r.quiet old new)
    texts (c.list_asked-in-None.ensures.failed save status))))
