use Rattle.std.proofs.Common.{rules}
use Rattle.plc_declarations.specs.Declarations.{variable}
use Rattle.plc_declarations.proofs.declared.behind.Goals as goal

pub returns-else-not-branch : goal.returns-else-not-branch
returns-else-not-branch c = variable c.in-Some.x (search rules) (search rules) (search rules)

pub returns-in-Some-behind_block : goal.returns-in-Some-behind_block
returns-in-Some-behind_block c = c.in-Some-behind_block.ensures (rw c.in-Derived.is at c.in_ok-type_of.ensures)
