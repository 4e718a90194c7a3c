use Rattle.std.proofs.Common.{◌≡◌, take, map}
use Rattle.scan_partial.proofs.filling.know_values.Given as goal

abbrev pub invariant-loop-var : goal.invariant-loop-var
invariant-loop-var g l = take l.var l.values ≡ map g.S.Operations.algebra.known (take l.var l.state.held.values)
