use Rattle.std.proofs.Common.{◌≡◌, ◌∙◌, ◌+◌, ap, arith, sym, refl, inl, inr, ℕ, true, false, Some}
use Rattle.scan_cycle.specs.Programs.{diagram_of}
use Rattle.scan_held.specs.Holding.{moment_of}
use Rattle.scan_held.proofs.FirstScans.{found_now, none_till}
use Rattle.scan_held.specs.SeveralLaws.{is_not_off, known_after}
use Rattle.scan_held.proofs.ComingAgain.{still_marked, still_sized}
use Rattle.scan_held.proofs.Periods.{not_past}
use Rattle.scan_held.proofs.ScanByScan.{both_long, none_made, one_more, value_is}
use Rattle.scan_held.proofs.opening.first_open.Goals as goal

pub loop-done-init : goal.loop-done-init
loop-done-init c = record {
  known = c.begin.ensures.known ∙ none_made (diagram_of c.args.program.now) (moment_of c.args.watched.first c.args.watched.scans) c.args.inputs.now c.args.state.now.held;
  sizes = c.begin.ensures.sizes;
  room = refl;
  mark = c.requires.mark;
  marked = λ some. absurd (omega (arith, some));
  before = omega arith;
  none = refl;
}

pub returns-in-On : goal.returns-in-On
returns-in-On c =
    let d = diagram_of c.args.program.now in
    let moment = moment_of c.args.watched.first c.args.watched.scans in
    let xs = c.args.inputs.now in
    let h = c.args.state.now.held in
    let before = c.loop-done.invariant in
    let done = c.loop-done.done in
    let known = one_more d moment xs done h c.loop-done.known c.scan_known.new.known before.known c.scan_known.ensures.known in
    let value = value_is d moment xs (done + 1) c.args.watched.coil h c.scan_known.new.known c.value-value.result known c.value-value.ensures in
    let here : done + 1 ≡ 1 + done = omega arith in
    let shown : is_not_off (known_after d moment xs h c.args.watched.coil (1 + done)) ≡ true =
    ap (λ (n : ℕ). is_not_off (known_after d moment xs h c.args.watched.coil n)) (sym here) ∙ ap is_not_off (sym value) ∙ elim c.in-On.is [ inl on ↦ ap is_not_off on | inr unsure ↦ ap is_not_off unsure ] in
    record {
      scan = ap (λ (n : ℕ). Some n) here ∙ sym (found_now (λ (n : ℕ). is_not_off (known_after d moment xs h c.args.watched.coil n)) 1 done c.args.watched.scans.count (omega (arith, c.loop-done-test.true)) before.none shown);
      value = value;
      sizes = c.scan_known.ensures.sizes;
      mark = before.mark;
      room = c.scan_known.ensures.room ∙ before.room;
    }

pub renewed-marked-requires-clause-long : goal.renewed-marked-requires-clause-long
renewed-marked-requires-clause-long c = both_long c.args.program.now c.loop-done.mark c.scan_known.new.known c.loop-done.invariant.mark c.scan_known.ensures.sizes

pub loop-done-preserved : goal.loop-done-preserved
loop-done-preserved c =
    let d = diagram_of c.args.program.now in
    let moment = moment_of c.args.watched.first c.args.watched.scans in
    let xs = c.args.inputs.now in
    let h = c.args.state.now.held in
    let before = c.loop-done.invariant in
    let done = c.loop-done.done in
    let known = one_more d moment xs done h c.loop-done.known c.scan_known.new.known before.known c.scan_known.ensures.known in
    let value = value_is d moment xs (done + 1) c.args.watched.coil h c.scan_known.new.known c.value-value.result known c.value-value.ensures in
    let here : done + 1 ≡ 1 + done = omega arith in
    let off : is_not_off (known_after d moment xs h c.args.watched.coil (1 + done)) ≡ false =
    ap (λ (n : ℕ). is_not_off (known_after d moment xs h c.args.watched.coil n)) (sym here) ∙ ap is_not_off (sym value) ∙ ap is_not_off c.in-Off.is in
    record {
      known = known;
      sizes = c.scan_known.ensures.sizes;
      room = c.scan_known.ensures.room ∙ before.room;
      mark = still_sized c.args.program.now c.loop-done.mark c.scan_known.new.known c.renewed-marked.new.mark c.loop-done.marked (done + 1) c.renewed-marked.result c.renewed-marked.ensures before.mark c.scan_known.ensures.sizes;
      marked = still_marked d moment xs h c.loop-done.mark c.scan_known.new.known c.renewed-marked.new.mark c.loop-done.marked (done + 1) c.renewed-marked.result c.renewed-marked.ensures before.marked known;
      before = not_past c.loop-done.mark c.scan_known.new.known c.renewed-marked.new.mark c.loop-done.marked (done + 1) c.renewed-marked.result c.renewed-marked.ensures (omega (arith, before.before));
      none = none_till (λ (n : ℕ). is_not_off (known_after d moment xs h c.args.watched.coil n)) done before.none off;
    }

pub returns-then-comes_again : goal.returns-then-comes_again
returns-then-comes_again c =
    let d = diagram_of c.args.program.now in
    let moment = moment_of c.args.watched.first c.args.watched.scans in
    let xs = c.args.inputs.now in
    let h = c.args.state.now.held in
    let before = c.loop-done.invariant in
    let done = c.loop-done.done in
    let known = one_more d moment xs done h c.loop-done.known c.scan_known.new.known before.known c.scan_known.ensures.known in
    let value = value_is d moment xs (done + 1) c.args.watched.coil h c.scan_known.new.known c.value-value.result known c.value-value.ensures in
    let here : done + 1 ≡ 1 + done = omega arith in
    let off : is_not_off (known_after d moment xs h c.args.watched.coil (1 + done)) ≡ false =
    ap (λ (n : ℕ). is_not_off (known_after d moment xs h c.args.watched.coil n)) (sym here) ∙ ap is_not_off (sym value) ∙ ap is_not_off c.in-Off.is in
    let none = none_till (λ (n : ℕ). is_not_off (known_after d moment xs h c.args.watched.coil n)) done before.none off in
    let again = c.comes_again.ensures c.if-comes_again.true in
    let marked = before.before in
    record {
      scan = sym (c.repeats.ensures d h c.args.watched.first c.args.watched.scans xs c.args.watched.coil c.loop-done.marked (done + 1) c.args.watched.scans.count again.0 (omega (arith, marked))
          (rw (before.marked again.0, known) at again.1) none);
      value = tt;
      sizes = c.scan_known.ensures.sizes;
      mark = before.mark;
      room = c.scan_known.ensures.room ∙ before.room;
    }
