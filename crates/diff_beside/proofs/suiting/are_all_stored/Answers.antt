use Rattle.std.proofs.Common.{List, refl, subst}
use Rattle.std.specs.List.{All}
use Rattle.diagram_declarations.specs.declared.kind.BlockKind.{BlockKind}
use Rattle.diff_matching.specs.declared.matching.Pair.{Pair}
use Rattle.diff_matching.specs.Suited.{AreOfKind}
use Rattle.diff_beside.proofs.suiting.are_all_stored.Goals as goal

pub returns-then-are_of_kinds-clause-instances : goal.returns-then-are_of_kinds-clause-instances
returns-then-are_of_kinds-clause-instances c = λ _.
    subst (λ (pairs : List Pair). All (λ (x : Pair). (kind : BlockKind) × AreOfKind kind c.args.old.now c.args.new.now x) pairs) c.instances.ensures
    (c.if-are_of_kinds.ensures refl)
