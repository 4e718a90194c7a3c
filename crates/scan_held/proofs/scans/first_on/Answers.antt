use Rattle.std.proofs.Common.{◌≡◌, ◌∙◌, ◌+◌, ap, arith, sym, ℕ, Some, refl}
use Rattle.scan_cycle.specs.Programs.{diagram_of}
use Rattle.scan_cycle.specs.Scan.{after_scan}
use Rattle.scan_cycle.specs.Standing.{Standing}
use Rattle.scan_held.specs.Holding.{is_on_after, moment_of}
use Rattle.scan_held.proofs.FirstScans.{found_now, in_order, none_so_far, none_till, on_is, scans_more}
use Rattle.scan_held.proofs.Periods.{not_past}
use Rattle.scan_held.proofs.Repeating.{still_fits, still_marked}
use Rattle.scan_held.proofs.scans.first_on.Goals as goal

pub loop-done-init : goal.loop-done-init
loop-done-init c = record {
  held = none_so_far (diagram_of c.args.program.now) (moment_of c.args.first c.args.scans) c.args.inputs.now c.args.state.now.held;
  fits = c.requires.fits;
  later = omega (arith, c.requires.later);
  mark = c.requires.mark;
  marked = λ some. absurd (omega (arith, some));
  before = omega arith;
  none = refl;
}

pub returns-then-value-clause-first : goal.returns-then-value-clause-first
returns-then-value-clause-first c =
    let d = diagram_of c.args.program.now in
    let moment = moment_of c.args.first c.args.scans in
    let inv = c.loop-done.invariant in
    let done = c.loop-done.done in
    let held = ap (λ (s : Standing). s.held) c.in-Ok.ensures.done ∙ ap (after_scan d (moment done) c.args.inputs.now) inv.held
    ∙ sym (scans_more d moment c.args.inputs.now done c.args.state.now.held) in
    let on = on_is d moment c.args.inputs.now c.args.state.now.held c.scan.new.state.held c.args.coil done c.value.result held c.value.ensures in
    let here : done + 1 ≡ 1 + done = omega arith in
    ap (λ (n : ℕ). Some n) here
    ∙ sym (found_now (is_on_after d moment c.args.inputs.now c.args.state.now.held c.args.coil) 1 done c.args.scans.count
    (omega (arith, c.loop-done-test.true)) inv.none (on ∙ c.if-value.true))

pub loop-done-preserved : goal.loop-done-preserved
loop-done-preserved c =
    let d = diagram_of c.args.program.now in
    let moment = moment_of c.args.first c.args.scans in
    let inv = c.loop-done.invariant in
    let done = c.loop-done.done in
    let held = ap (λ (s : Standing). s.held) c.in-Ok.ensures.done ∙ ap (after_scan d (moment done) c.args.inputs.now) inv.held
    ∙ sym (scans_more d moment c.args.inputs.now done c.args.state.now.held) in
    let on = on_is d moment c.args.inputs.now c.args.state.now.held c.scan.new.state.held c.args.coil done c.value.result held c.value.ensures in
    let now : c.scan.new.state.moment ≡ moment done = ap (λ (s : Standing). s.moment) c.in-Ok.ensures.done in
    record {
      held = held;
      fits = c.in-Ok.ensures.fits inv.fits;
      later = omega (arith, now, in_order c.args.first c.args.scans done);
      mark = still_fits c.args.program.now c.loop-done.mark c.scan.new.state c.renewed-marked.new.mark c.loop-done.marked (done + 1) c.renewed-marked.result c.renewed-marked.ensures inv.mark (c.in-Ok.ensures.fits inv.fits);
      marked = still_marked d moment c.args.inputs.now c.args.state.now.held c.loop-done.mark c.scan.new.state c.renewed-marked.new.mark c.loop-done.marked (done + 1) c.renewed-marked.result c.renewed-marked.ensures inv.marked held;
      before = not_past c.loop-done.mark c.scan.new.state c.renewed-marked.new.mark c.loop-done.marked (done + 1) c.renewed-marked.result c.renewed-marked.ensures (omega (arith, inv.before));
      none = none_till (is_on_after d moment c.args.inputs.now c.args.state.now.held c.args.coil) done inv.none (on ∙ c.if-value.false);
    }

pub returns-then-comes_again-clause-first : goal.returns-then-comes_again-clause-first
returns-then-comes_again-clause-first c =
    let d = diagram_of c.args.program.now in
    let moment = moment_of c.args.first c.args.scans in
    let inputs = c.args.inputs.now in
    let inv = c.loop-done.invariant in
    let done = c.loop-done.done in
    let held = ap (λ (s : Standing). s.held) c.in-Ok.ensures.done ∙ ap (after_scan d (moment done) inputs) inv.held
    ∙ sym (scans_more d moment inputs done c.args.state.now.held) in
    let on = on_is d moment inputs c.args.state.now.held c.scan.new.state.held c.args.coil done c.value.result held c.value.ensures in
    let off = none_till (is_on_after d moment inputs c.args.state.now.held c.args.coil) done inv.none (on ∙ c.if-value.false) in
    let again = c.comes_again.ensures c.if-comes_again.true in
    let before = inv.before in
    sym (c.repeats.ensures c.args.state.now.held c.args.first c.args.scans inputs c.args.coil c.loop-done.marked (done + 1) c.args.scans.count again.0 (omega (arith, before))
    (rw (inv.marked again.0, held) at again.1) off)
