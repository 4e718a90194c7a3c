use Rattle.std.proofs.Common.{◌∷◌, inl, map, refl, string_bytes}
use Rattle.cli_inputs.specs.Setting.{given_by}
use Rattle.cli_states.specs.AnyState.{AnyStateBy, AnyStateRefusal, IsAskedOfAll, assumes_nothing}
use Rattle.cli_questions.specs.Query.{question_of}
use Rattle.cli_states.specs.Query.{at_stored}
use Rattle.cli_questions.proofs.Endings.{before_asking, ends_asked, failed_asked}
use Rattle.cli_states.proofs.PossibleEnds.{asked_of_all}
use Rattle.cli_states.proofs.possible.list_possible.Goals as goal

pub returns-in-Err-clause-failed : goal.returns-in-Err-clause-failed
returns-in-Err-clause-failed g c = λ save status.
    let r = c.args.request.now in
    let given = given_by c.args.texts.now in
    inl (record {
      reason = c.in-Err.fault;
      has = before_asking given (string_bytes r.coil ∷ map string_bytes r.inputs.items) (IsAskedOfAll given r) (AnyStateRefusal (assumes_nothing r) r) c.in-Err.fault
          (rw (c.as_str-coil.ensures.value, c.deref.ensures.value) at c.in-Err.ensures.fault);
      unwritten = refl {a = g.O.Sink.log c.args.out.now};
      unsaved = refl {a = save};
      reported = c.report.ensures.line;
    })

pub returns-in-Ok-clause-done : goal.returns-in-Ok-clause-done
returns-in-Ok-clause-done g c = λ status.
    let r = c.args.request.now in
    let given = given_by c.args.texts.now in
    ends_asked (IsAskedOfAll given r) (AnyStateBy (assumes_nothing r) r) (at_stored (question_of c.in-Ok.asked))
    (asked_of_all given _ r.all_inputs _ (question_of c.in-Ok.asked) (rw (c.as_str-coil.ensures.value, c.deref.ensures.value) at c.in-Ok.ensures.asked)) r.quiet _ _ _ (c.list_asked.ensures.done status)

pub returns-in-Ok-clause-failed : goal.returns-in-Ok-clause-failed
returns-in-Ok-clause-failed g c = λ save status.
    let r = c.args.request.now in
    let given = given_by c.args.texts.now in
    failed_asked (IsAskedOfAll given r) (AnyStateBy (assumes_nothing r) r) (at_stored (question_of c.in-Ok.asked))
    (asked_of_all given _ r.all_inputs _ (question_of c.in-Ok.asked) (rw (c.as_str-coil.ensures.value, c.deref.ensures.value) at c.in-Ok.ensures.asked)) r.quiet given
    (string_bytes r.coil ∷ map string_bytes r.inputs.items) (AnyStateRefusal (assumes_nothing r) r) _ _ (c.list_asked.ensures.failed save status)
