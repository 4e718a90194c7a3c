use Rattle.std.proofs.Common.{take}
use Rattle.std.specs.Prelude.{All, Contains}
use Rattle.invariant_sets.specs.Beginning.{AddsPairs, HasEach}
use Rattle.invariant_cases.specs.Allowing.{AreApart}
use Rattle.invariant_sets.proofs.first_pairs.add_pairs.Given as goal

abbrev pub invariant-loop-number : goal.invariant-loop-number
invariant-loop-number l = record {
  apart : AreApart l.pairs.items l.seen.state.now.held;
  added : AddsPairs l.first l.others l.fn.pairs.items l.pairs.items;
  each : HasEach l.seen.state.now.held l.seen.after.now l.pairs.items l.first (take l.number l.others);
  kept : All (Contains l.pairs.items) l.fn.pairs.items;
}
