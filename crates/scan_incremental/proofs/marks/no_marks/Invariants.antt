use Rattle.std.proofs.Common.{◌≡◌, false, map, replicate}
use Rattle.scan_incremental.proofs.marks.no_marks.Given as goal

abbrev pub invariant-loop : goal.invariant-loop
invariant-loop l = map (λ x. x.items) l.rows.items ≡ replicate l.counter (replicate l.rungs false)
