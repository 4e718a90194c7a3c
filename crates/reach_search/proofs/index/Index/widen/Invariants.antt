-- The hashes stay.
use Rattle.std.proofs.Common.{◌≡◌}
use Rattle.reach_search.proofs.index.Index.widen.Given as goal

abbrev pub invariant-loop-number : goal.invariant-loop-number
invariant-loop-number l = l.self.hashes ≡ l.fn.self.hashes
