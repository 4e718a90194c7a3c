use Rattle.std.proofs.Common.{arith}
use Rattle.st_program.specs.Declarations.{end}
use Rattle.st_program.proofs.Declared.{declaration_next}
use Rattle.st_program.proofs.declarations.read_section.Goals as goal

pub returns-in-Some-clause-declarations : goal.returns-in-Some-clause-declarations
returns-in-Some-clause-declarations c = c.loop-after.invariant.declarations _ _ (end _ _ _ c.in-Some.ensures.marked)

pub loop-after-preserved : goal.loop-after-preserved
loop-after-preserved c = record {
  declarations = declaration_next _ _ _ _ _ _ _ _ c.loop-after.invariant.declarations c.in_ok-rest.ensures.declaration;
  shorter = omega (arith, c.loop-after.invariant.shorter, c.in_ok-rest.ensures.shorter);
}
