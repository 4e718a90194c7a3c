use Rattle.std.proofs.Common.{◌≡◌, ◌≤◌, length}
use Rattle.text_reasons.specs.Bytes.{bad_from}
use Rattle.text_reasons.proofs.bytes.bad_from.Given as goal

abbrev pub invariant-loop-rest : goal.invariant-loop-rest
invariant-loop-rest l = (bad_from l.in_rung l.inside l.rest ≡ bad_from l.in_rung l.fn.within l.line) × (length l.rest ≤ length l.line)

abbrev pub decreases-loop-rest : goal.decreases-loop-rest
decreases-loop-rest l = length l.rest
