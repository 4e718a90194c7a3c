use Rattle.diagram_declarations.proofs.decls.Decls.add.Goals as goal

pub push-requires : goal.push-requires
push-requires c = c.in-None.ensures.none c.requires
