use Rattle.std.proofs.Common.{◌-◌, length}
use Rattle.assume_possible.proofs.Satisfying.{bound}
use Rattle.assume_possible.proofs.satisfiable.+is_satisfiable_from.Given as goal

abbrev pub decreases-is_satisfiable_from : goal.decreases-is_satisfiable_from
decreases-is_satisfiable_from l = bound l.expression.now - length l.known.now.items
