use Rattle.std.proofs.Common.{subst}
use Rattle.diagram_declarations.specs.Decls.{Declared, AreInRange}
use Rattle.scan_cycle.proofs.Sound.{sound}
use Rattle.scan_cycle.proofs.scene.checked.Goals as goal

pub returns : goal.returns
returns c =
    sound c.args.program.now c.checked.ensures (subst (λ (x : Declared). AreInRange x) c.decls.ensures c.instances-instances.ensures.kept)
