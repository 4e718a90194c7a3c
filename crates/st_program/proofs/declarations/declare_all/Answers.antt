use Rattle.st_program.proofs.Declared.{declared_name, declared_all}
use Rattle.st_program.proofs.declarations.declare_all.Goals as goal

pub loop-name-preserved : goal.loop-name-preserved
loop-name-preserved c =
    declared_name _ _ _ _ _ _ _ _ _ c.loop-name.invariant c.in-Some.ensures.first c.in_ok-declare.ensures.fresh c.in_ok-declare.ensures.added

pub returns : goal.returns
returns c = declared_all _ _ _ _ _ _ c.loop-name.invariant c.in_default.ensures.none
