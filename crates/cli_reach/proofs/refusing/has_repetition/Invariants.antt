use Rattle.std.proofs.Common.{◌≡◌, length}
use Rattle.causes_query.specs.Refusal.{has_repetition}
use Rattle.cli_reach.proofs.refusing.has_repetition.Given as goal

abbrev pub invariant-loop-listed : goal.invariant-loop-listed
invariant-loop-listed l = has_repetition l.listed ≡ has_repetition l.initial.listed

abbrev pub decreases-loop-listed : goal.decreases-loop-listed
decreases-loop-listed l = length l.listed
