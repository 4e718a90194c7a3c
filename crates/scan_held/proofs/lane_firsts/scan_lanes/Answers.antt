use Rattle.std.proofs.Common.{◌≡◌, ◌∙◌, ◌+◌, ◌<◌, ap, arith, sym, refl, ℕ, Bool, List, IsSome, Option, None, get_or, subst}
use Rattle.scan_cycle.specs.Cells.{Diagram}
use Rattle.scan_cycle.specs.Programs.{diagram_of}
use Rattle.scan_cycle.specs.Rung.{Held}
use Rattle.scan_held.specs.Holding.{moment_of}
use Rattle.scan_symbolic.specs.KnownScan.{Known}
use Rattle.scan_signals.specs.Words.{word}
use Rattle.scan_signals.specs.declared.word.Word64.{Word64}
use Rattle.scan_held.specs.Lanes.{bit}
use Rattle.scan_held.specs.Noting.{noted}
use Rattle.scan_held.specs.SeveralLanes.{first_in_lane, is_on_in_lane, lanes_after}
use Rattle.scan_held.specs.declared.lanes.Lanes.{Lanes}
use Rattle.scan_held.proofs.FirstInLane.{first_more, first_stays}
use Rattle.scan_held.proofs.WordScans.{none_made, one_more, value_is}
use Rattle.scan_held.proofs.lane_firsts.scan_lanes.Goals as goal

pub loop-done-init : goal.loop-done-init
loop-done-init c = record {
  known = c.begin.ensures.known ∙ none_made (diagram_of c.args.program.now) (moment_of c.args.watched.first c.args.watched.scans) c.args.inputs.now c.args.state.now.held;
  sizes = c.begin.ensures.sizes;
  room = refl;
  long = c.clear.auto.firsts ∙ c.requires.firsts;
  firsts = λ lane h. c.clear.ensures lane;
}

-- one scan more, in each lane
noted_more : (d : Diagram) (moment : ℕ → ℕ) (xs : List Word64) (h : Held) (coil n : ℕ) (k : Known Word64 Lanes) (value : Word64) (firsts next : List (Option ℕ))
    → k ≡ lanes_after d moment xs (n + 1) h → value ≡ get_or k.values coil (word 0)
    → ((lane : ℕ) → lane < 64 → get_or firsts lane None ≡ first_in_lane d moment xs h coil lane n)
    → ((lane : ℕ) → lane < 64 → get_or next lane None ≡ noted (bit value lane) (n + 1) (get_or firsts lane None))
    → (lane : ℕ) → lane < 64 → get_or next lane None ≡ first_in_lane d moment xs h coil lane (n + 1)
noted_more d moment xs h coil n k value firsts next known is before after lane l =
    let one : n + 1 ≡ 1 + n = omega arith in
    after lane l
    ∙ ap (λ (f : Option ℕ). noted (bit value lane) (n + 1) f) (before lane l)
    ∙ ap (λ (b : Bool). noted b (n + 1) (first_in_lane d moment xs h coil lane n))
    (value_is d moment xs (n + 1) coil lane h k value known is ∙ ap (is_on_in_lane d moment xs h coil lane) one)
    ∙ sym (first_more (is_on_in_lane d moment xs h coil lane) n)

pub loop-done-preserved : goal.loop-done-preserved
loop-done-preserved c =
    let d = diagram_of c.args.program.now in
    let moment = moment_of c.args.watched.first c.args.watched.scans in
    let xs = c.args.inputs.now in
    let h = c.args.state.now.held in
    let before = c.loop-done.invariant in
    let done = c.loop-done.done in
    let known = one_more d moment xs done h c.loop-done.known c.scan_known.new.known before.known c.scan_known.ensures.known in
    record {
      known = known;
      sizes = c.scan_known.ensures.sizes;
      room = c.scan_known.ensures.room ∙ before.room;
      long = c.note.auto.firsts ∙ before.long;
      firsts = noted_more d moment xs h c.args.watched.coil done c.scan_known.new.known c.value-value.result c.loop-done.firsts c.note.new.firsts known c.value-value.ensures before.firsts c.note.ensures;
    }

pub returns-then-have_all : goal.returns-then-have_all
returns-then-have_all c =
    let d = diagram_of c.args.program.now in
    let moment = moment_of c.args.watched.first c.args.watched.scans in
    let xs = c.args.inputs.now in
    let h = c.args.state.now.held in
    let before = c.loop-done.invariant in
    let done = c.loop-done.done in
    let known = one_more d moment xs done h c.loop-done.known c.scan_known.new.known before.known c.scan_known.ensures.known in
    let now = noted_more d moment xs h c.args.watched.coil done c.scan_known.new.known c.value-value.result c.loop-done.firsts c.note.new.firsts known c.value-value.ensures before.firsts c.note.ensures in
    record {
      firsts = λ lane l.
          let p = is_on_in_lane d moment xs h c.args.watched.coil lane in
          let there : IsSome (get_or c.note.new.firsts lane None) = c.if-have_all.ensures.0 refl lane (omega (arith, l, c.note.auto.firsts, before.long)) in
          now lane l ∙ first_stays p (done + 1) c.args.watched.scans.count (omega (arith, c.loop-done-test.true)) (subst (λ (f : Option ℕ). IsSome f) (now lane l) there);
      sizes = c.scan_known.ensures.sizes;
      room = c.scan_known.ensures.room ∙ before.room;
    }
