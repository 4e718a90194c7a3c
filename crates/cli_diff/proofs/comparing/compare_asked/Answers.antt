use Rattle.cli_inputs.specs.Reports.{logs}
use Rattle.cli_inputs.specs.Setting.{given_by}
use Rattle.cli_questions.specs.Query.{question_of}
use Rattle.cli_diff.specs.Assumed.{assumption}
use Rattle.cli_diff.proofs.TellingEnds.{told_breaks, told_counts, untold_breaks, untold_counts}
use Rattle.cli_diff.proofs.comparing.compare_asked.Goals as goal

pub returns-in-Some-clause-done : goal.returns-in-Some-clause-done
returns-in-Some-clause-done g c = λ save status.
    let r = c.args.request.now in
    let before = logs (g.O.Sink.log c.args.out.now) save (g.E.Sink.log c.args.err.now) in
    let after = logs (g.O.Sink.log c.tell_asked.new.out) save (g.E.Sink.log c.tell_asked.new.err) in
    let b = c.in-Some.bounds in
    told_counts (given_by c.args.texts.now.old) (given_by c.args.texts.now.new) (assumption c.args.assumed) r (question_of c.args.asked.now.of_old) (question_of c.args.asked.now.of_new) before after
    r.form b.after b.upto c.in-Some.ensures.told (c.tell_asked.ensures.done save status)

pub returns-in-Some-clause-failed : goal.returns-in-Some-clause-failed
returns-in-Some-clause-failed g c = λ save status.
    let r = c.args.request.now in
    let before = logs (g.O.Sink.log c.args.out.now) save (g.E.Sink.log c.args.err.now) in
    let after = logs (g.O.Sink.log c.tell_asked.new.out) save (g.E.Sink.log c.tell_asked.new.err) in
    let b = c.in-Some.bounds in
    told_breaks (given_by c.args.texts.now.old) (given_by c.args.texts.now.new) (assumption c.args.assumed) r (question_of c.args.asked.now.of_old) (question_of c.args.asked.now.of_new) before after
    r.form b.after b.upto c.in-Some.ensures.told (c.tell_asked.ensures.failed save status)

pub returns-in-None-clause-done : goal.returns-in-None-clause-done
returns-in-None-clause-done g c = λ save status.
    let r = c.args.request.now in
    let before = logs (g.O.Sink.log c.args.out.now) save (g.E.Sink.log c.args.err.now) in
    let after = logs (g.O.Sink.log c.list_asked.new.out) save (g.E.Sink.log c.list_asked.new.err) in
    untold_counts (given_by c.args.texts.now.old) (given_by c.args.texts.now.new) (assumption c.args.assumed) r (question_of c.args.asked.now.of_old) (question_of c.args.asked.now.of_new) before after
    r.form c.in-None.ensures.untold (c.list_asked.ensures.done status)

pub returns-in-None-clause-failed : goal.returns-in-None-clause-failed
returns-in-None-clause-failed g c = λ save status.
    let r = c.args.request.now in
    let before = logs (g.O.Sink.log c.args.out.now) save (g.E.Sink.log c.args.err.now) in
    let after = logs (g.O.Sink.log c.list_asked.new.out) save (g.E.Sink.log c.list_asked.new.err) in
    untold_breaks (given_by c.args.texts.now.old) (given_by c.args.texts.now.new) (assumption c.args.assumed) r (question_of c.args.asked.now.of_old) (question_of c.args.asked.now.of_new) before after
    r.form c.in-None.ensures.untold (c.list_asked.ensures.failed save status)
