use Rattle.std.proofs.Common.{◌∙◌, ◌+◌, ◌≤◌, ℕ, [], ◌∷◌, ap, length, subst, sym}
use Rattle.std.proofs.lemmas.Bool.{eq-eqb, eqb-true, iff_false}
use Rattle.scan_cycle.specs.Runs.{OneScan}
use Rattle.scan_cycle.specs.Standing.{Fits, Standing}
use Rattle.reach_runs.specs.Asking.{AreTimed, Gives, question_of}
use Rattle.reach_runs.specs.Rhythm.{next_after, next_of}
use Rattle.reach_runs.proofs.Replaying.{AreMade, is_last, is_switched, made_with, next_given, next_later, next_timed, none_made, one_made}
use Rattle.reach_runs.proofs.replay.switches_on.Goals as goal
use Rattle.reach_runs.proofs.replay.switches_on.Goals.{then-not-is_in_time-via-then-not-is_in_time, then-not-is_in_time-via-else-not-is_in_time+then-not-gives}

pub loop-done-init : goal.loop-done-init
loop-done-init c = record {
  made = none_made (question_of c.args.query) c.args.run.now c.copy_from.new.self.held (ap (λ (s : Standing). s.held) c.copy_from.ensures);
  moment = subst (λ (s : Standing). s.moment ≤ c.args.query.from) (sym c.copy_from.ensures) c.requires.from;
  fits = subst (Fits c.args.query.program.now) (sym c.copy_from.ensures) c.requires.state;
}

pub returns-then-not-is_in_time-clause-on : goal.returns-then-not-is_in_time-clause-on
returns-then-not-is_in_time-clause-on c =
    let q = question_of c.args.query in
    let from = next_after q.timing q.from c.loop-done.last in
    let h = c.loop-done.state.held in
    let x = c.index-run-done.result in (
      λ is. absurd cc,
      λ on. absurd (elim c.then-not-is_in_time.branch [
        | then-not-is_in_time-via-then-not-is_in_time w ↦
            iff_false (c.is_in_time.ensures c.one.inside.inputs.items) w.if-not-is_in_time.true
            (subst (λ (s : OneScan). AreTimed q.timing from (s ∷ [])) (sym c.one.view_is)
            (next_timed q c.args.run.now c.loop-done.done from h x c.loop-done.invariant.made c.loop-done-test.true c.index-run-done.is on))
        | then-not-is_in_time-via-else-not-is_in_time+then-not-gives w ↦
            iff_false w.gives.ensures w.if-not-gives.true
            (subst (Gives q) (sym w.deref.ensures.value)
            (subst (λ (s : OneScan). Gives q s.inputs) (sym c.one.view_is)
            (next_given q c.args.run.now c.loop-done.done from h x c.loop-done.invariant.made c.loop-done-test.true c.index-run-done.is on)))
      ]),
    )

pub returns-then-is_on-clause-on : goal.returns-then-is_on-clause-on
returns-then-is_on-clause-on c =
    let q = question_of c.args.query in
    let scans = c.args.run.now in
    let n = c.loop-done.done in
    let from = next_after q.timing q.from c.loop-done.last in
    let h = c.loop-done.state.held in
    let g = c.scan.new.state.held in
    let x = c.index-run-done.result in
    let one = made_with q scans n from h g x c.one.inside.moment c.one.inside.inputs.items c.deref.result.now c.deref-in-loop-done.result.now c.loop-done-test.true
    c.index-run-done.is c.one.view_is c.deref.ensures.value c.deref-in-loop-done.ensures.value ((c.is_in_time.ensures c.one.inside.inputs.items).0 c.if-not-is_in_time.false)
    (c.gives.ensures.0 c.if-not-gives.false) (ap (λ (s : Standing). s.held) c.in-Ok.ensures.done) in
    let on = sym c.are_so-is_on.ensures ∙ c.if-is_on.true in (
      λ last. is_switched q scans n from h g x c.loop-done.invariant.made one (eqb-true (n + 1) (length scans) last) on,
      λ switched. eq-eqb (n + 1) (length scans) (is_last q scans n from h g x c.loop-done.invariant.made one on switched),
    )

pub loop-done-preserved : goal.loop-done-preserved
loop-done-preserved c =
    let q = question_of c.args.query in
    let scans = c.args.run.now in
    let n = c.loop-done.done in
    let from = next_after q.timing q.from c.loop-done.last in
    let h = c.loop-done.state.held in
    let g = c.scan.new.state.held in
    let x = c.index-run-done.result in
    let moment = c.one.inside.moment in
    let one = made_with q scans n from h g x moment c.one.inside.inputs.items c.deref.result.now c.deref-in-loop-done.result.now c.loop-done-test.true c.index-run-done.is
    c.one.view_is c.deref.ensures.value c.deref-in-loop-done.ensures.value ((c.is_in_time.ensures c.one.inside.inputs.items).0 c.if-not-is_in_time.false)
    (c.gives.ensures.0 c.if-not-gives.false) (ap (λ (s : Standing). s.held) c.in-Ok.ensures.done) in
    record {
      made = subst (λ (m : ℕ). AreMade q scans (n + 1) (next_of q.timing m) g) (sym (ap (λ (s : OneScan). s.moment) c.one.view_is))
          (one_made q scans n from h g x c.loop-done.invariant.made one (sym c.are_so-is_on.ensures ∙ c.if-is_on.false));
      moment = subst (λ (s : Standing). s.moment ≤ next_of q.timing moment) (sym c.in-Ok.ensures.done) (next_later q.timing moment);
      fits = c.in-Ok.ensures.fits c.loop-done.invariant.fits;
    }
