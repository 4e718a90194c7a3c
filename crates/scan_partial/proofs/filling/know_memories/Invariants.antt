use Rattle.std.proofs.Common.{◌≡◌, take, map}
use Rattle.scan_partial.proofs.filling.know_memories.Given as goal

abbrev pub invariant-loop-number : goal.invariant-loop-number
invariant-loop-number g l = take l.number l.memories ≡ map g.S.Operations.algebra.known (take l.number l.state.held.kept.memories)
