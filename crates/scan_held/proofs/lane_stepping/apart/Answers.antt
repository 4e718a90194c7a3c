use Rattle.std.proofs.Common.{◌∙◌, ◌<◌, ℕ, get_or, ap, sym, arith}
use Rattle.diagram_declarations.specs.declared.kind.BlockKind.TheVariants.{Ton}
use Rattle.scan_signals.specs.Blocks.{new_block, q_of}
use Rattle.scan_signals.specs.Words.{word}
use Rattle.scan_held.proofs.WordBits.{all_bits, are_apart, left_above, left_below, set_above, set_below}
use Rattle.scan_held.proofs.lane_stepping.apart.Goals as goal
use Rattle.scan_held.proofs.lane_stepping.apart.Goals.{then-q, else-q}

pub loop-lane-preserved : goal.loop-lane-preserved
loop-lane-preserved c =
    let q = λ (i : ℕ). q_of (get_or c.args.stored.now i (new_block Ton)) in
    let inv = c.loop-lane.invariant in
    let within : c.loop-lane.lane < 64 = omega (arith, c.loop-lane-test.true) in
    elim c.if-q.branch [
      | then-q w ↦ record {
        below = set_below q c.loop-lane.q c.if-q.q c.loop-lane.lane within inv.below inv.above (sym c.q.ensures ∙ w.if-q.true) w.q-is;
        above = set_above q c.loop-lane.q c.if-q.q c.loop-lane.lane within inv.below inv.above w.q-is;
      }
      | else-q w ↦ record {
        below = left_below q c.loop-lane.q c.if-q.q c.loop-lane.lane within inv.below inv.above (sym c.q.ensures ∙ w.if-q.false) w.q-is;
        above = left_above q c.loop-lane.q c.if-q.q c.loop-lane.lane within inv.below inv.above w.q-is;
      }
    ]

pub returns : goal.returns
returns c = λ f each.
    are_apart f c.args.stored.now (word c.loop-lane.q) c.told-stored
    (ap word (all_bits c.args.stored.now c.loop-lane.q c.told-stored (omega arith) (λ i h. c.loop-lane.invariant.below i (omega (arith, c.loop-lane-test.false))))) each
