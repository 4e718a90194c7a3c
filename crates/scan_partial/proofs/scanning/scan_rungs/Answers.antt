use Rattle.std.proofs.Common.{◌∙◌, ◌<◌, ap, sym, arith, length, length-set, true}
use Rattle.scan_cycle.specs.Programs.{diagram_of}
use Rattle.scan_symbolic.specs.Gating.{guard_by}
use Rattle.scan_symbolic.proofs.Exits.{guard_is}
use Rattle.scan_symbolic.specs.KnownScan.{Passed}
use Rattle.scan_partial.proofs.Rungs.{as_long, at_first, known_more, long_then, taken_more}
use Rattle.scan_partial.proofs.scanning.scan_rungs.Goals as goal

pub loop-rung-init : goal.loop-rung-init
loop-rung-init g c =
    let first = at_first g.S.Operations.algebra g.B.Keep.keeping (diagram_of c.args.program.now) c.args.now c.args.known.now in
    record {
      known = sym (ap (λ (s : Passed _ _). s.known) first);
      taken = sym (ap (λ (s : Passed _ _). s.taken) first);
      rungs = c.requires.taken;
      start = c.requires.start;
      lengths = as_long c.args.known.now;
      links = c.requires.links;
    }

pub loop-rung-preserved : goal.loop-rung-preserved
loop-rung-preserved g c =
    let o = g.S.Operations.algebra in
    let w = g.B.Keep.keeping in
    let p = c.args.program.now in
    let d = diagram_of p in
    let j = c.loop-rung.rung in
    let taken = c.loop-rung.taken in
    let held = c.loop-rung.invariant in
    let below : j < p.rungs = omega arith in
    let within : j < length taken = omega (arith, held.rungs, below) in
    let guard = c.guard_by-guard.ensures ∙ ap (λ ls. guard_by o taken j ls (o.known true)) c.leaps.ensures ∙ guard_is o p taken j below in
    record {
      known = known_more o w d c.args.now c.args.known.now j _ _ _ taken held.known held.taken guard c.evaluate.ensures.known;
      taken = taken_more o w d c.args.now c.args.known.now j _ _ _ taken within held.known held.taken guard c.evaluate.ensures.taken;
      rungs = length-set taken j _ ∙ held.rungs;
      start = c.evaluate.ensures.start;
      lengths = long_then c.evaluate.ensures.lengths held.lengths;
      links = c.evaluate.ensures.links;
    }
