use Rattle.std.proofs.Common.{◌≡◌, length, map}
use Rattle.st_program.specs.Formals.{formal_in}
use Rattle.st_program.proofs.formal.formal_in.Given as goal

abbrev pub invariant-loop-rows : goal.invariant-loop-rows
invariant-loop-rows l = formal_in l.word (map (λ row. (row.0.now, row.1)) l.rows) ≡ formal_in l.word (map (λ row. (row.0.now, row.1)) l.table)

abbrev pub decreases-loop-rows : goal.decreases-loop-rows
decreases-loop-rows l = length l.rows
