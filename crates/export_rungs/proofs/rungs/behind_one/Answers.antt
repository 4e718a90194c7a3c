use Rattle.std.proofs.Common.{refl}
use Rattle.draw_check.proofs.Onward.{onward}
use Rattle.export_rungs.proofs.Latched.{one_done}
use Rattle.export_rungs.proofs.rungs.behind_one.Goals as goal

pub returns-in-None : goal.returns-in-None
returns-in-None c =
    onward c.behind_edge_coil.result _ _ c.behind_edge_coil.ensures
    (λ rest go. one_done c.args.at.scan.program.now c.args.at.scan.variables c.args.at.scan.jumps c.args.at.rung c.args.at.known.now c.args.actions.now c.args.done _ _ c.args.list.now rest.now
    c.requires refl go)
