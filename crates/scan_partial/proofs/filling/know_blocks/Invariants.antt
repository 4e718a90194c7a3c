use Rattle.std.proofs.Common.{◌≡◌, take, map}
use Rattle.scan_partial.proofs.filling.know_blocks.Given as goal

abbrev pub invariant-loop-inst : goal.invariant-loop-inst
invariant-loop-inst g l = take l.inst l.blocks ≡ map g.B.Keep.keeping.stored (take l.inst l.state.held.kept.blocks)
