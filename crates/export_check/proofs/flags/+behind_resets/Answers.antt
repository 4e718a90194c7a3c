use Rattle.std.proofs.Common.{◌<◌, length, arith}
use Rattle.draw_check.proofs.Onward.{onward}
use Rattle.export_check.proofs.Resetting.{reset_by}
use Rattle.export_check.proofs.flags.+behind_resets.Goals as goal

pub returns : goal.returns
returns t c =
    let within : c.args.number < length c.args.plan.jumps.now = omega arith in
    onward c.behind_resets.result _ _ c.behind_resets.ensures
    (λ rest. reset_by c.args.plan.first c.args.number (length c.args.plan.jumps.now) c.args.list.now c.in_ok-next.next.now rest.now within c.in_ok-next.ensures)
