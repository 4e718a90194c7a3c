use Rattle.std.proofs.Common.{◌≡◌, ◌∙◌, ◌+◌, ◌<◌, arith, drop, refl, subst}
use Rattle.text_trace.specs.Coming.{Takes}
use Rattle.text_trace.specs.Steps.{as_lines, as_run}
use Rattle.text_trace.proofs.Taking.{going_done, going_many, going_more, going_starved, going_stops}
use Rattle.text_trace.proofs.Telling.{all_written, line_cut, line_more, lines_end}
use Rattle.text_trace.proofs.simulation.follow_rows.Goals as goal

pub loop-done-preserved : goal.loop-done-preserved
loop-done-preserved g c =
    let ok = c.in_default-step.ensures in (
      c.in-Ok.ensures.sound,
      ok.fits,
      ok.ready,
      omega (arith, c.if-done-most.false, c.most-most.ensures.value, c.loop-done.invariant.3),
      omega (arith, c.take.ensures.number, c.loop-done.invariant.4),
      λ all log going.
          let h = c.loop-done.invariant.5 all log going in
          going_more (as_run c.args.run) c.args.run.program.now c.args.columns.now c.args.state.now c.loop-done.state c.step.new.state all c.in-Some.taken _ _ _ c.loop-done.done c.loop-done.filling c.take.new.filling
          h (subst (λ o. Takes c.args.columns.now (drop (c.loop-done.done + 1) all) o c.take.new.filling) c.in-Some.is (c.in-Ok.ensures.takes (drop (c.loop-done.done + 1) all) h.left)) ok.steps,
      ok.rest,
      λ all told going.
          let h = c.loop-done.invariant.7 all told going in
          line_more (as_run c.args.run) c.args.run.lines c.args.run.program.now c.args.columns.now c.args.state.now c.loop-done.state c.step.new.state all c.in-Some.taken _ _ _ _ _ c.loop-done.done c.loop-done.filling c.take.new.filling
          h (subst (λ o. Takes c.args.columns.now (drop (c.loop-done.done + 1) all) o c.take.new.filling) c.in-Some.is (c.in-Ok.ensures.takes (drop (c.loop-done.done + 1) all) h.left)) ok.steps
          (rw c.moment.ensures at c.in-Ok-tell.ensures.told),
      λ none. c.in-Ok-tell.ensures.untold none ∙ c.loop-done.invariant.8 none,
    )

pub returns-in_default-clause-ends : goal.returns-in_default-clause-ends
returns-in_default-clause-ends g c = λ all log told going telling. (
  going_starved (as_run c.args.run) c.args.run.program.now c.args.columns.now c.args.state.now c.loop-done.state all _ _ c.loop-done.done c.loop-done.filling (c.loop-done.invariant.5 all log going) c.loop-done.invariant.3,
  going_starved (as_lines c.args.run) c.args.run.program.now c.args.columns.now c.args.state.now c.loop-done.state all _ _ c.loop-done.done c.loop-done.filling (c.loop-done.invariant.7 all told telling) c.loop-done.invariant.3,
)

pub returns-in_default-found-clause-ends : goal.returns-in_default-found-clause-ends
returns-in_default-found-clause-ends g c = λ all log told going telling.
    let h = c.loop-done.invariant.5 all log going in
    let k = c.loop-done.invariant.7 all told telling in
    let none = subst (λ o. Takes c.args.columns.now (drop (c.loop-done.done + 1) all) o c.take.new.filling) c.in_default-found.is (c.in-Ok.ensures.takes (drop (c.loop-done.done + 1) all) h.left) in (
      going_done (as_run c.args.run) c.args.run.program.now c.args.columns.now c.args.state.now c.loop-done.state all _ _ c.loop-done.done c.loop-done.filling c.take.new.filling h none c.loop-done.invariant.3,
      going_done (as_lines c.args.run) c.args.run.program.now c.args.columns.now c.args.state.now c.loop-done.state all _ _ c.loop-done.done c.loop-done.filling c.take.new.filling k none c.loop-done.invariant.3,
    )

pub returns-then-done-most-clause-ends : goal.returns-then-done-most-clause-ends
returns-then-done-most-clause-ends g c = λ all log told going telling.
    let h = c.loop-done.invariant.5 all log going in
    let k = c.loop-done.invariant.7 all told telling in
    let one = subst (λ o. Takes c.args.columns.now (drop (c.loop-done.done + 1) all) o c.take.new.filling) c.in-Some.is (c.in-Ok.ensures.takes (drop (c.loop-done.done + 1) all) h.left) in
    let many : c.loop-done.done ≡ (as_run c.args.run).most = omega (arith, c.if-done-most.true, c.most-most.ensures.value) in (
      going_many (as_run c.args.run) c.args.run.program.now c.args.columns.now c.args.state.now c.loop-done.state all c.in-Some.taken _ _ c.loop-done.done _ c.loop-done.filling c.take.new.filling h one many refl,
      going_many (as_lines c.args.run) c.args.run.program.now c.args.columns.now c.args.state.now c.loop-done.state all c.in-Some.taken _ _ c.loop-done.done _ c.loop-done.filling c.take.new.filling k one many refl,
    )

pub returns-in-Err-clause-ends : goal.returns-in-Err-clause-ends
returns-in-Err-clause-ends g c = λ all log told going telling.
    let h = c.loop-done.invariant.5 all log going in
    let k = c.loop-done.invariant.7 all told telling in
    let one = subst (λ o. Takes c.args.columns.now (drop (c.loop-done.done + 1) all) o c.take.new.filling) c.in-Some.is (c.in-Ok.ensures.takes (drop (c.loop-done.done + 1) all) h.left) in
    let few : c.loop-done.done < (as_run c.args.run).most = omega (arith, c.if-done-most.false, c.most-most.ensures.value, c.loop-done.invariant.3) in (
      going_stops (as_run c.args.run) c.args.run.program.now c.args.columns.now c.args.state.now c.loop-done.state c.step.new.state all c.in-Some.taken c.in-Err.fault _ _ _ c.loop-done.done c.loop-done.filling c.take.new.filling
          h few one c.in-Err.ensures.steps,
      lines_end (as_run c.args.run) c.args.run.lines c.args.run.program.now c.args.columns.now c.args.state.now c.loop-done.state c.step.new.state all c.in-Some.taken c.in-Err.fault _ _ _ _ c.loop-done.done c.loop-done.filling c.take.new.filling
          k few one c.in-Err.ensures.steps,
    )

pub returns-in_default-tell-clause-ends : goal.returns-in_default-tell-clause-ends
returns-in_default-tell-clause-ends g c = λ all log told going telling.
    let h = c.loop-done.invariant.5 all log going in
    let k = c.loop-done.invariant.7 all told telling in
    let ok = c.in_default-step.ensures in
    let one = subst (λ o. Takes c.args.columns.now (drop (c.loop-done.done + 1) all) o c.take.new.filling) c.in-Some.is (c.in-Ok.ensures.takes (drop (c.loop-done.done + 1) all) h.left) in
    let few : c.loop-done.done < (as_run c.args.run).most = omega (arith, c.if-done-most.false, c.most-most.ensures.value, c.loop-done.invariant.3) in (
      c.in_default-tell.ensures.asked,
      all_written (as_run c.args.run) c.args.run.program.now c.args.columns.now c.args.state.now c.step.new.state all _ _ (c.loop-done.done + 1) c.take.new.filling
          (going_more (as_run c.args.run) c.args.run.program.now c.args.columns.now c.args.state.now c.loop-done.state c.step.new.state all c.in-Some.taken _ _ _ c.loop-done.done c.loop-done.filling c.take.new.filling h one ok.steps)
          (omega (arith, few)),
      line_cut (as_run c.args.run) c.args.run.lines c.args.run.program.now c.args.columns.now c.args.state.now c.loop-done.state c.step.new.state all c.in-Some.taken _ _ _ _ _ c.loop-done.done c.loop-done.filling c.take.new.filling
          k few one ok.steps (rw c.moment.ensures at c.in_default-tell.ensures.told),
    )
