use Rattle.std.proofs.Common.{subst}
use Rattle.std.specs.List.{IsDistinct}
use Rattle.diagram_declarations.specs.Decls.{Declared, names_of}
use Rattle.diagram_declarations.specs.Name.{same_letters}
use Rattle.diff_matching.proofs.Suiting.{no_input, suited}
use Rattle.diff_matching.proofs.matching.checked.Goals as goal

pub returns-clause-suited : goal.returns-clause-suited
returns-clause-suited c =
    let apart = subst (λ (d : Declared). IsDistinct same_letters (names_of d)) c.decls.ensures c.vars-vars.ensures.kept.kept.0 in
    suited c.args.old.now c.args.new.now apart c.args.matching.now c.requires

pub returns-clause-no_input : goal.returns-clause-no_input
returns-clause-no_input c =
    let apart = subst (λ (d : Declared). IsDistinct same_letters (names_of d)) c.decls.ensures c.vars-vars.ensures.kept.kept.0 in
    no_input c.args.old.now c.args.new.now c.args.matching.now (suited c.args.old.now c.args.new.now apart c.args.matching.now c.requires)
