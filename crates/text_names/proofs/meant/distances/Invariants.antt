use Rattle.std.proofs.Common.{◌≡◌, map}
use Rattle.std.specs.List.{range_with_len}
use Rattle.text_names.specs.Nearest.{far_from}
use Rattle.text_names.proofs.meant.distances.Given as goal

abbrev pub invariant-loop-number : goal.invariant-loop-number
invariant-loop-number l = l.distances.items ≡ map (far_from l.decls l.wanted l.word) (range_with_len 0 l.number)
