use Rattle.std.proofs.Common.{◌≡◌, ◌≤◌, length}
use Rattle.assume_comments.specs.Front.{behind_close}
use Rattle.assume_comments.proofs.front.behind_close.Given as goal

abbrev pub invariant-loop-rest : goal.invariant-loop-rest
invariant-loop-rest l = (behind_close l.rest ≡ behind_close l.text) × (length l.rest ≤ length l.text)

abbrev pub decreases-loop-rest : goal.decreases-loop-rest
decreases-loop-rest l = length l.rest
