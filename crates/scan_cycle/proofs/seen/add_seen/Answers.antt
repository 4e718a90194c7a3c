use Rattle.std.proofs.Common.{rules}
use Rattle.scan_cycle.specs.Programs.{diagram_of}
use Rattle.scan_cycle.specs.Seen.{mark_in}
use Rattle.scan_cycle.proofs.Marks.{at_none, at_one_more}
use Rattle.scan_cycle.proofs.seen.add_seen.Goals as goal

pub loop-place-init : goal.loop-place-init
loop-place-init c = at_none _ _

pub loop-place-preserved : goal.loop-place-preserved
loop-place-preserved c =
    at_one_more (mark_in (diagram_of c.args.scene.program.now) c.args.scene.now c.args.scene.rung c.args.before.now)
    c.args.marks.now.items c.loop-place.marks.items _ c.loop-place.place _ c.loop-place.invariant c.in_ok-push.ensures.items (search rules)
