use Rattle.std.proofs.Common.{List, [], subst, sym}
use Rattle.diagram_program.specs.Gates.{actions_of}
use Rattle.draw_check.proofs.Onward.{onward, there}
use Rattle.export_power.specs.declared.known.Known.{Known}
use Rattle.export_rungs.specs.Steps.{Comes}
use Rattle.export_rungs.proofs.Preparing.{prepared_none}
use Rattle.export_rungs.proofs.rungs.behind_rung.Goals as goal

pub returns : goal.returns
returns c =
    onward c.behind_jump.result _ _ c.behind_jump.ensures
    (λ rest does. does c.args.list.now
    (subst (λ (ks : List Known). Comes c.args.scan.program.now c.args.scan.variables c.args.scan.jumps c.args.rung ks (actions_of c.args.scan.program.now c.args.rung) c.args.list.now c.in-Some.ready.now)
    (sym c.deref.ensures.value)
    (there _ _ _ c.in-Some.is c.in_ok-ready.ensures c.args.list.now
    (subst (λ (ks : List Known). Comes c.args.scan.program.now c.args.scan.variables c.args.scan.jumps c.args.rung ks [] c.args.list.now c.args.list.now) (sym c.new-known.ensures.items)
    (prepared_none c.args.scan.program.now c.args.scan.variables c.args.scan.jumps c.args.rung c.args.list.now)))))
