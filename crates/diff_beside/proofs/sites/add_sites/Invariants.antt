use Rattle.std.proofs.Common.{◌≡◌, ◌++◌, map, take}
use Rattle.diff_beside.specs.Moving.{moved_site, shift_of}
use Rattle.diff_beside.proofs.sites.add_sites.Given as goal

abbrev pub invariant-loop-number : goal.invariant-loop-number
invariant-loop-number l = l.sites.items ≡ l.initial.sites.items ++ map (moved_site (shift_of l.moving)) (take l.number l.program.sites)
