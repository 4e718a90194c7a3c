use Rattle.std.proofs.Common.{arith}
use Rattle.st_program.specs.Statements.{empty}
use Rattle.st_program.proofs.statements.after_empty.Goals as goal

pub loop-behind-preserved : goal.loop-behind-preserved
loop-behind-preserved c = record {
  empty = λ values rest before after all reads.
      c.loop-behind.invariant.empty values rest before after all (empty _ _ rest before after all c.in-Some.ensures.has reads);
  shorter = omega (arith, c.loop-behind.invariant.shorter, c.in-Some.ensures.shorter);
}
