use Rattle.std.proofs.Common.{◌≡◌, ◌<◌, ℕ, length, slice_index_or, false}
use Rattle.scan_symbolic.proofs.looking.clear.Given as goal

abbrev pub invariant-loop-rung : goal.invariant-loop-rung
invariant-loop-rung g l =
    let off = g.S.Operations.algebra.known false in
    record {
      length : length l.taken ≡ length l.fn.taken;
      off : (i : ℕ) → i < l.rung → slice_index_or l.taken i off ≡ off;
    }
