use Rattle.std.proofs.Common.{◌≡◌, map, take}
use Rattle.cli_diff.specs.Asking.{number_in}
use Rattle.cli_diff.proofs.asking.numbers_in.Given as goal

abbrev pub invariant-loop-pair : goal.invariant-loop-pair
invariant-loop-pair l = l.numbers.items ≡ map (number_in l.side) (take l.pair-index l.pairs)
