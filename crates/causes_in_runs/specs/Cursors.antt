-- Private: a row of what is possible, as the cursor over the runs sees it.
use Rattle.std.specs.Prelude.{◌≡◌, ◌+◌, ◌<◌, ◌≤◌, ◌^◌, true, length}
use Rattle.causes_any_state.specs.Possible.{SomeLeavesBy}
use Rattle.causes_any_state.specs.declared.possible.PossibleCause.{PossibleCause}
use Rattle.causes_in_runs.specs.Rows.{AreUnreached, RunCursor}

-- The next row of what is possible: no run comes to a number before it.
pub record GivesPossible (c : RunCursor) (row : PossibleCause) (d : RunCursor) : Type 0 where
  pub from : c.from ≤ row.number
  pub within : row.number < 2 ^ length c.listed
  pub unreached_before : AreUnreached c.assumed c.program c.state c.coil c.listed c.from row.number
  pub said : row.is_settled ≡ true → SomeLeavesBy c.assumed c.program c.coil c.listed c.states true row.number
  pub then : d ≡ record c { from = row.number + 1 }
