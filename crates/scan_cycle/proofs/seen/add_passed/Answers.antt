use Rattle.std.proofs.Common.{rules}
use Rattle.scan_cycle.specs.Programs.{diagram_of}
use Rattle.scan_cycle.specs.Seen.{mark_passed}
use Rattle.scan_cycle.proofs.Marks.{at_none, at_one_more}
use Rattle.scan_cycle.proofs.seen.add_passed.Goals as goal

pub loop-place-init : goal.loop-place-init
loop-place-init c = at_none _ _

pub loop-place-preserved : goal.loop-place-preserved
loop-place-preserved c =
    at_one_more (λ place. mark_passed c.args.held.now ((diagram_of c.args.scene.program.now).cell c.args.scene.rung place))
    c.args.marks.now.items c.loop-place.marks.items _ c.loop-place.place _ c.loop-place.invariant c.in_ok-push.ensures.items
    (search rules)
