-- How far a search is, told in lines while it goes on.
use Rattle.std.specs.Prelude.{◌≡◌, ◌++◌, ◌⊎◌, ℕ, Bool, true, false, All, List, [], Result, Ok, Err, codes, decimal, flat_map}
use Rattle.io_text.specs.Log.{Puts, PutsAll, PutsPrefix, WriteLog}
use Rattle.io_text.specs.declared.fault.WriteFault.{WriteFault}
use Rattle.reach_runs.specs.Asking.{RunQuestion, StaysOff}
use Rattle.cli_reach.specs.declared.seeking.SearchFault.{SearchFault}
use Rattle.cli_reach.specs.declared.seeking.SearchFault.TheVariants.{Memory, Write}

-- What a line tells: how many states the search keeps, of which nothing more is said here, and so many scans.
pub record Step : Type 0 where
  pub states : ℕ
  pub scans : ℕ

abbrev pub step : ℕ → ℕ → Step
step states scans = record { states = states; scans = scans }

-- `states M scans N`
abbrev pub step_line : Step → List ℕ
step_line s = codes "states " ++ (decimal s.states ++ (codes " scans " ++ (decimal s.scans ++ codes "\n")))

-- Lines were written, whole or as far as `Written` says: with each of them no run of at most so many scans switches the target on. There is none
-- where none is asked for.
pub record TellsSteps (lines : Bool) (q : RunQuestion) (Written : List ℕ → Type 0) : Type 0 where
  pub steps : List Step
  pub off : All (λ s. StaysOff q s.scans) steps
  pub none : lines ≡ false → steps ≡ []
  pub written : Written (flat_map step_line steps)

-- Private to the search: one line more was written, or as far as the writer took it; or none was.
abbrev pub TellsOne : Bool → RunQuestion → WriteLog → WriteLog → Result Unit WriteFault → Type 0
TellsOne lines q err err' r =
    ((r ≡ Ok tt) × (err' ≡ err)) ⊎ ((s : Step) × (lines ≡ true) × StaysOff q s.scans × Puts err err' r (step_line s))

-- Private to the search: the lines of one that ended so. The last of them is cut off where it could not be written.
abbrev pub TellsSearch : {T : Type 0} → Bool → RunQuestion → WriteLog → WriteLog → Result T SearchFault → Type 0
TellsSearch lines q err err' (Ok sought) = TellsSteps lines q (PutsAll err err')
TellsSearch lines q err err' (Err Memory) = TellsSteps lines q (PutsAll err err')
TellsSearch lines q err err' (Err Write) = (lines ≡ true) × TellsSteps lines q (PutsPrefix err err')
