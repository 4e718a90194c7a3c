use Rattle.std.proofs.Common.{subst, sym}
use Rattle.diagram_declarations.specs.Decls.{AreInRange}
use Rattle.diagram_declarations.specs.ReadDecls.{with_instance}
use Rattle.diagram_declarations.proofs.decls.Decls.push_instance.Goals as goal

pub invariant_of-self-2 : goal.invariant_of-self-2
invariant_of-self-2 c =
    let kept = subst (λ d. AreInRange (with_instance d c.args.instance)) (sym c.self.view_is) c.requires in
    rw c.in_ok-push.ensures.items (kept, c.self.invariant.1)
