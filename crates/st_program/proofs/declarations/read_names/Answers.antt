use Rattle.std.proofs.Common.{arith, ap, length}
use Rattle.st_program.proofs.Declared.{name_last, name_more}
use Rattle.st_program.proofs.declarations.read_names.Goals as goal

pub loop-name-preserved : goal.loop-name-preserved
loop-name-preserved c = record {
  names = rw c.in_ok-push.ensures.items (name_more _ _ _ _ _ _ _ c.loop-name.invariant.names c.in-Some.ensures.first c.in-Some-behind.ensures.marked);
  shorter = omega (arith, c.loop-name.invariant.shorter, ap length c.in-Some.ensures.first, c.in-Some-behind.ensures.shorter);
}

pub returns-in-None-clause-names : goal.returns-in-None-clause-names
returns-in-None-clause-names c = rw c.in_ok-push.ensures.items (name_last _ _ _ _ _ _ c.loop-name.invariant.names c.in-Some.ensures.first)
