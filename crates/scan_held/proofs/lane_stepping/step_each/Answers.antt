use Rattle.std.proofs.Common.{◌≡◌, ◌∙◌, ◌<◌, ◌≤◌, ◌≢◌, ◌+◌, ℕ, Bool, List, ap, arith, below_more, get_or, get_or-set_other, get_or-set_same, length, set, sym}
use Rattle.std.proofs.Math.ListN.{length-set}
use Rattle.diagram_declarations.specs.declared.kind.BlockKind.TheVariants.{Ton}
use Rattle.scan_signals.specs.declared.block.Stored.{Stored}
use Rattle.scan_signals.specs.Blocks.{new_block, q_of, step}
use Rattle.scan_held.specs.Lanes.{bit, stepped, stored_in}
use Rattle.scan_held.proofs.WordBits.{apart_by_bits, left_above, left_below, set_above, set_below}
use Rattle.scan_held.proofs.lane_stepping.step_each.Goals as goal
use Rattle.scan_held.proofs.lane_stepping.step_each.Goals.{then-q, else-q}

-- what stands at the lane that was written, and at the others
module _ (f : ℕ → Stored) (ss : List Stored) (lane : ℕ) (s : Stored) (within : lane < length ss) (is : s ≡ f lane) where
  written : ((i : ℕ) → i < lane → get_or ss i (new_block Ton) ≡ f i) → (i : ℕ) → i < lane + 1 → get_or (set ss lane s) i (new_block Ton) ≡ f i
  written before = below_more (λ i. get_or (set ss lane s) i (new_block Ton) ≡ f i) lane
      (λ i h. let other : i ≢ lane = omega arith in rw get_or-set_other (before i h))
      (rw get_or-set_same is)

  not_written : (g : ℕ → Stored) → ((i : ℕ) → lane ≤ i → i < 64 → get_or ss i (new_block Ton) ≡ g i)
      → (i : ℕ) → lane + 1 ≤ i → i < 64 → get_or (set ss lane s) i (new_block Ton) ≡ g i
  not_written g ahead i h l = let other : i ≢ lane = omega arith in rw get_or-set_other (ahead i (omega arith) l)

pub loop-lane-preserved : goal.loop-lane-preserved
loop-lane-preserved c =
    let f = stepped c.args.kind c.args.preset c.args.before.now c.args.first c.args.second c.args.now in
    let q = λ (i : ℕ). q_of (f i) in
    let inv = c.loop-lane.invariant in
    let lane = c.loop-lane.lane in
    let within : lane < 64 = omega (arith, c.loop-lane-test.true) in
    let inside : lane < length c.loop-lane.stored = omega (arith, within, inv.long) in
    let is : c.step-after.result ≡ f lane = c.step-after.ensures
    ∙ ap (λ (s : Stored). step c.args.kind c.args.preset s c.bit-on.result c.bit-other.result c.args.now) (inv.ahead lane (omega arith) within)
    ∙ ap (λ (b : Bool). step c.args.kind c.args.preset (stored_in c.args.before.now lane) b c.bit-other.result c.args.now) c.bit-on.ensures
    ∙ ap (λ (b : Bool). step c.args.kind c.args.preset (stored_in c.args.before.now lane) (bit c.args.first lane) b c.args.now) c.bit-other.ensures in
    let here = sym (ap q_of is) ∙ sym c.q.ensures in
    let long = length-set c.loop-lane.stored lane c.step-after.result ∙ inv.long in
    let done = written f c.loop-lane.stored lane c.step-after.result inside is inv.done in
    let ahead = not_written f c.loop-lane.stored lane c.step-after.result inside is (stored_in c.args.before.now) inv.ahead in
    elim c.if-q.branch [
      | then-q w ↦ record {
        long = long;
        done = done;
        ahead = ahead;
        below = set_below q c.loop-lane.q c.if-q.q lane within inv.below inv.above (here ∙ w.if-q.true) w.q-is;
        above = set_above q c.loop-lane.q c.if-q.q lane within inv.below inv.above w.q-is;
      }
      | else-q w ↦ record {
        long = long;
        done = done;
        ahead = ahead;
        below = left_below q c.loop-lane.q c.if-q.q lane within inv.below inv.above (here ∙ w.if-q.false) w.q-is;
        above = left_above q c.loop-lane.q c.if-q.q lane within inv.below inv.above w.q-is;
      }
    ]

pub returns : goal.returns
returns c =
    let f = stepped c.args.kind c.args.preset c.args.before.now c.args.first c.args.second c.args.now in
    apart_by_bits f c.loop-lane.stored c.loop-lane.q c.loop-lane.invariant.long (omega arith)
    (λ i h. c.loop-lane.invariant.done i (omega (arith, c.loop-lane-test.false)))
    (λ i h. c.loop-lane.invariant.below i (omega (arith, c.loop-lane-test.false)))
