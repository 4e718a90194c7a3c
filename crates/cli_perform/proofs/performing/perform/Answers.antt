use Rattle.std.proofs.Common.{inr, refl}
use Rattle.cli_perform.proofs.Endings.{with_second, with_third}
use Rattle.cli_perform.proofs.performing.perform.Goals as goal

pub returns-in-Check-clause-done : goal.returns-in-Check-clause-done
returns-in-Check-clause-done g c = λ status.
    let done = c.print.ensures.done status in
    rw c.in-Check.is (done.0, refl, done.1)

pub returns-in-Check-clause-failed : goal.returns-in-Check-clause-failed
returns-in-Check-clause-failed g c = λ status.
    rw c.in-Check.is (with_second refl (c.print.ensures.failed (g.S.Sink.log c.args.save.now) status))

pub returns-in-Uses-clause-failed : goal.returns-in-Uses-clause-failed
returns-in-Uses-clause-failed g c = λ status.
    rw c.in-Uses.is (with_second refl (c.print-in-Uses.ensures.failed (g.S.Sink.log c.args.save.now) status))

pub returns-in-Causes-clause-failed : goal.returns-in-Causes-clause-failed
returns-in-Causes-clause-failed g c = λ status.
    rw c.in-Causes.is (with_third refl (c.list_causes_assuming.ensures.failed (g.S.Sink.log c.args.save.now) status))

pub returns-in-Never-clause-failed : goal.returns-in-Never-clause-failed
returns-in-Never-clause-failed g c = λ status. rw c.in-Never.is (with_third refl (c.list_never.ensures.failed (g.S.Sink.log c.args.save.now) status))

pub returns-in-Reach-clause-failed : goal.returns-in-Reach-clause-failed
returns-in-Reach-clause-failed g c = λ status. rw c.in-Reach.is (with_third refl (c.reach.ensures.failed (g.S.Sink.log c.args.save.now) status))

pub returns-in-Possible-clause-failed : goal.returns-in-Possible-clause-failed
returns-in-Possible-clause-failed g c = λ status. rw c.in-Possible.is (with_third refl (c.list_possible.ensures.failed (g.S.Sink.log c.args.save.now) status))

pub returns-in-Groups-clause-failed : goal.returns-in-Groups-clause-failed
returns-in-Groups-clause-failed g c = λ status. rw c.in-Groups.is (with_third refl (c.list_groups_assuming.ensures.failed (g.S.Sink.log c.args.save.now) status))

pub returns-in-Show-clause-failed : goal.returns-in-Show-clause-failed
returns-in-Show-clause-failed g c = λ status. rw c.in-Show.is (with_second refl (c.show.ensures.failed (g.S.Sink.log c.args.save.now) status))

pub returns-in-Held-clause-failed : goal.returns-in-Held-clause-failed
returns-in-Held-clause-failed g c = λ status. rw c.in-Held.is (with_third refl (c.list_held.ensures.failed (g.S.Sink.log c.args.save.now) status))

pub returns-in-Waves-clause-failed : goal.returns-in-Waves-clause-failed
returns-in-Waves-clause-failed g c = λ status. rw c.in-Waves.is (with_third refl (c.wave.ensures.failed (g.S.Sink.log c.args.save.now) status))

pub returns-in-Import-clause-failed : goal.returns-in-Import-clause-failed
returns-in-Import-clause-failed g c = λ status. rw c.in-Import.is (inr (c.import_project.ensures.failed status, refl))

pub returns-in-Relevant-clause-failed : goal.returns-in-Relevant-clause-failed
returns-in-Relevant-clause-failed g c = λ status. rw c.in-Relevant.is (with_third refl (c.list_relevant_assuming.ensures.failed (g.S.Sink.log c.args.save.now) status))

pub returns-in-Progress-clause-done : goal.returns-in-Progress-clause-done
returns-in-Progress-clause-done g c = λ status. rw c.in-Progress.is (c.list_progress.ensures.done (g.S.Sink.log c.args.save.now) status, refl)

pub returns-in-Progress-clause-failed : goal.returns-in-Progress-clause-failed
returns-in-Progress-clause-failed g c = λ status. rw c.in-Progress.is (with_third refl (c.list_progress.ensures.failed (g.S.Sink.log c.args.save.now) status))

pub returns-in-Causes-clause-done : goal.returns-in-Causes-clause-done
returns-in-Causes-clause-done g c = λ status. rw c.in-Causes.is (c.list_causes_assuming.ensures.done status, refl)

pub returns-in-Groups-clause-done : goal.returns-in-Groups-clause-done
returns-in-Groups-clause-done g c = λ status. rw c.in-Groups.is (c.list_groups_assuming.ensures.done status, refl)

pub returns-in-Held-clause-done : goal.returns-in-Held-clause-done
returns-in-Held-clause-done g c = λ status. rw c.in-Held.is (c.list_held.ensures.done status, refl)

pub returns-in-Relevant-clause-done : goal.returns-in-Relevant-clause-done
returns-in-Relevant-clause-done g c = λ status. rw c.in-Relevant.is (c.list_relevant_assuming.ensures.done status, refl)

pub returns-in-Reach-clause-done : goal.returns-in-Reach-clause-done
returns-in-Reach-clause-done g c = λ status. rw c.in-Reach.is (c.reach.ensures.done status, refl)

pub returns-in-Never-clause-done : goal.returns-in-Never-clause-done
returns-in-Never-clause-done g c = λ status. rw c.in-Never.is (c.list_never.ensures.done status, refl)

pub returns-in-Possible-clause-done : goal.returns-in-Possible-clause-done
returns-in-Possible-clause-done g c = λ status. rw c.in-Possible.is (c.list_possible.ensures.done status, refl)

pub returns-in-Import-clause-done : goal.returns-in-Import-clause-done
returns-in-Import-clause-done g c = λ status.
    let done = c.import_project.ensures.done status in
    rw c.in-Import.is (done.0, refl, done.1)

pub returns-in-Expect-clause-failed : goal.returns-in-Expect-clause-failed
returns-in-Expect-clause-failed g c = λ status. rw c.in-Expect.is (c.expect.ensures.failed status)

pub returns-in-Draw-clause-done : goal.returns-in-Draw-clause-done
returns-in-Draw-clause-done g c = λ status.
    let done = c.draw_text.ensures.done status in
    rw c.in-Draw.is (done.0, refl, done.1)

pub returns-in-Draw-clause-failed : goal.returns-in-Draw-clause-failed
returns-in-Draw-clause-failed g c = λ status. rw c.in-Draw.is (inr (c.draw_text.ensures.failed status, refl))

pub returns-in-Export-clause-done : goal.returns-in-Export-clause-done
returns-in-Export-clause-done g c = λ status.
    let done = c.export_text.ensures.done status in
    rw c.in-Export.is (done.0, refl, done.1)

pub returns-in-Export-clause-failed : goal.returns-in-Export-clause-failed
returns-in-Export-clause-failed g c = λ status.
    rw c.in-Export.is (with_third refl (c.export_text.ensures.failed (g.S.Sink.log c.args.save.now) status))
