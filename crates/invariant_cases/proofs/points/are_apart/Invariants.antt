use Rattle.std.proofs.Common.{◌≡◌, false, take}
use Rattle.std.specs.Prelude.{All}
use Rattle.invariant_cases.specs.Allowing.{are_both_on}
use Rattle.invariant_cases.proofs.points.are_apart.Given as goal

abbrev pub invariant-loop-number : goal.invariant-loop-number
invariant-loop-number l = All (λ pair. are_both_on l.state.held pair ≡ false) (take l.number l.pairs)
