use Rattle.std.proofs.Common.{◌≡◌, ◌⊎◌, ◌∙◌, true, inl, inr, refl, subst, sym}
use Rattle.cli_inputs.specs.Reports.{logs}
use Rattle.cli_inputs.specs.Setting.{given_by}
use Rattle.cli_questions.specs.Query.{question_of}
use Rattle.cli_diff.specs.Assumed.{Assumption}
use Rattle.cli_diff.specs.AssumedEnding.{BreaksOffAssumed, CountsAssumed, assumes_nothing}
use Rattle.cli_diff.specs.Ending.{RefusesOf}
use Rattle.cli_diff.specs.Faults.{IsRefusedOf}
use Rattle.cli_diff.proofs.AssumedEnds.{plain_breaks, plain_counts}
use Rattle.cli_diff.proofs.Endings.{refuses_as}
use Rattle.cli_diff.proofs.comparing.compare_read.Goals as goal

pub returns-then-assumes_nothing-clause-done : goal.returns-then-assumes_nothing-clause-done
returns-then-assumes_nothing-clause-done g c = λ save status.
    let r = c.args.request.now in
    let old = question_of c.args.asked.now.of_old in
    let new = question_of c.args.asked.now.of_new in
    let before = logs (g.O.Sink.log c.args.out.now) save (g.E.Sink.log c.args.err.now) in
    let after = logs (g.O.Sink.log c.compare_asked.new.out) save (g.E.Sink.log c.compare_asked.new.err) in
    let none : assumes_nothing r ≡ true = sym c.assumes_nothing.ensures ∙ c.if-assumes_nothing.true in
    let h = subst (λ (a : Assumption). CountsAssumed r.form a r old new before after) c.nothing.ensures (c.compare_asked.ensures.done save status) in
    rw none (plain_counts (given_by c.args.texts.now.old) (given_by c.args.texts.now.new) r old new c.requires.asked before after r.form refl h)

pub returns-then-assumes_nothing-clause-failed : goal.returns-then-assumes_nothing-clause-failed
returns-then-assumes_nothing-clause-failed g c = λ save status.
    let r = c.args.request.now in
    let g_old = given_by c.args.texts.now.old in
    let g_new = given_by c.args.texts.now.new in
    let old = question_of c.args.asked.now.of_old in
    let new = question_of c.args.asked.now.of_new in
    let before = logs (g.O.Sink.log c.args.out.now) save (g.E.Sink.log c.args.err.now) in
    let after = logs (g.O.Sink.log c.compare_asked.new.out) save (g.E.Sink.log c.compare_asked.new.err) in
    let none : assumes_nothing r ≡ true = sym c.assumes_nothing.ensures ∙ c.if-assumes_nothing.true in
    let h = subst (λ (a : Assumption). RefusesOf g_old g_new (IsRefusedOf r.form old new) before after ⊎ BreaksOffAssumed r.form g_old a r old new before after) c.nothing.ensures
    (c.compare_asked.ensures.failed save status) in
    rw none (elim h [
      | inl h ↦ inl (refuses_as g_old g_new _ _ before after (λ side f has. inr (old, new, c.requires.asked, has)) h)
      | inr h ↦ inr (plain_breaks g_old g_new r old new c.requires.asked before after r.form refl h)
    ])

pub compare_assuming-requires-clause-assuming : goal.compare_assuming-requires-clause-assuming
compare_assuming-requires-clause-assuming g c = sym c.assumes_nothing.ensures ∙ c.if-assumes_nothing.false
