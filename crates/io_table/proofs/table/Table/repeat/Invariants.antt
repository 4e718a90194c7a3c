use Rattle.std.proofs.Common.{IsTrue}
use Rattle.io_table.proofs.table.Table.repeat.Given as goal

abbrev pub invariant-loop-place : goal.invariant-loop-place
invariant-loop-place g l = IsTrue l.self.is_whole → IsTrue l.initial.self.is_whole
