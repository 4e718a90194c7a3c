-- How far a search is.
use Rattle.std.specs.Prelude.{◌≡◌, ◌+◌, ◌<◌, ℕ, false, if◌then◌else◌}
use Rattle.reach_runs.specs.Asking.{RunQuestion, StaysOff}
use Rattle.reach_search.specs.Searches.{AreAsked, IsReachedIn, IsSearchOf}
use Rattle.reach_search.specs.Sets.{count_of}
use Rattle.reach_search.specs.Visits.{Grows, IsVisited}
use Rattle.reach_search.specs.declared.levels.Level.{Level}
use Rattle.reach_search.specs.declared.seeking.Searching.{Searching}
use Rattle.reach_search.specs.declared.state_set.StateSet.{StateSet}

-- The level of this depth, which begins with so many states. Runs of as many scans leave the target OFF where no scan was missed.
abbrev pub deeper : Level → ℕ → ℕ → Level
deeper level depth end = record level { depth = depth; scans = if level.is_missed then level.scans else depth; end = end }

-- Some states of the set are visited: those before this number.
abbrev pub AreVisited : RunQuestion → StateSet → ℕ → Type 0
AreVisited q set end = (number : ℕ) → number < end → IsVisited q set number

-- The level began with these states, to which all runs of so many scans lead. Others were found since, and some are visited.
pub record IsBegun (q : RunQuestion) (set : StateSet) (level : Level) : Type 0 where
  pub begun : StateSet
  pub reached : IsReachedIn q begun level.scans
  pub some : 0 < level.scans
  pub depth : level.depth ≡ level.scans
  pub end : level.end ≡ count_of begun
  pub grows : Grows begun set
  pub visited : AreVisited q set level.next

-- All runs of one scan more lead to a state of the set.
pub record IsDone (q : RunQuestion) (set : StateSet) (level : Level) : Type 0 where
  pub reached : IsReachedIn q set (level.scans + 1)
  pub depth : level.depth ≡ level.scans
  pub visited : AreVisited q set level.next

-- No run of so many scans switches the target on; and the level is begun, after the first scan, where no scan was missed that may.
pub record IsAt (q : RunQuestion) (set : StateSet) (level : Level) : Type 0 where
  pub off : StaysOff q level.scans
  pub begun : level.is_missed ≡ false → 0 < level.depth → IsBegun q set level
  pub first : level.depth ≡ 0 → (level.scans ≡ 0) × (level.next ≡ 0)

pub record IsSearching (q : RunQuestion) (s : Searching) : Type 0 where
  pub search : IsSearchOf q.program s.search
  pub inputs : AreAsked q s.search.inputs.items
  pub level : IsAt q s.search.set s.level
