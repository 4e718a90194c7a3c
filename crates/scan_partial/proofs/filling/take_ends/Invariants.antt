use Rattle.std.proofs.Common.{◌≡◌, take, map}
use Rattle.scan_partial.proofs.filling.take_ends.Given as goal

abbrev pub invariant-loop-inst : goal.invariant-loop-inst
invariant-loop-inst g l = take l.inst l.ends ≡ map g.B.Keep.keeping.q (take l.inst l.blocks)
