use Rattle.std.proofs.Common.{◌+◌, ◌*◌, ◌-◌, ◌≤◌, length}
use Rattle.causes_any_state.specs.Possible.{pairs_of}
use Rattle.causes_any_state.specs.Searching.{AreStateBuffers}
use Rattle.causes_any_state.proofs.seeking.+seeking.Given as goal

abbrev pub decreases-seek : goal.decreases-seek
decreases-seek l = l.scans * (length (pairs_of l.asked.states.now.staying) + 3)

abbrev pub decreases-by_partners : goal.decreases-by_partners
decreases-by_partners l =
    l.scans * (length (pairs_of l.asked.states.now.staying) + 3) + (length (pairs_of l.asked.states.now.staying) - l.number) + 1

abbrev pub decreases-by_cases : goal.decreases-by_cases
decreases-by_cases l = l.scans * (length (pairs_of l.asked.states.now.staying) + 3) + length (pairs_of l.asked.states.now.staying) + 2

abbrev pub invariant-by_cases-loop-case : goal.invariant-by_cases-loop-case
invariant-by_cases-loop-case l = record {
  space : AreStateBuffers l.asked.program.now l.space;
  left : l.left ≤ l.scans;
}
