use Rattle.std.proofs.Common.{refl}
use Rattle.diagram_declarations.proofs.Keeping.{AreInRange-nothing}
use Rattle.diagram_declarations.proofs.decls.Decls.new.Goals as goal

pub invariant_of-result : goal.invariant_of-result
invariant_of-result c = rw (c.new.ensures.items, c.new-2.ensures.items) (AreInRange-nothing, refl)
