-- Two programs that stand side by side in a third one, which has the rungs of both, and one input where they have two that belong together.
use Rattle.std.specs.Prelude.{◌≡◌, ◌≢◌, ℕ, true, List, Contains}
use Rattle.std.specs.List.{All, AllPairs}
use Rattle.diagram_program.specs.Program.{Drawing}
use Rattle.scan_cycle.specs.Standing.{fresh}
use Rattle.diff_matching.specs.declared.matching.Pair.{Pair}
use Rattle.diff_matching.specs.Matching.{Matching}
use Rattle.diff_matching.specs.Runs.{AgreeAfterEach, AreRuns, TwoScans}
use Rattle.diff_matching.specs.Suited.{AreBoth, AreOnce}
use Rattle.diff_runs.specs.declared.sides.Sides.{Sides}

-- From the fresh states on, the programs agree after each scan of any runs in which inputs that belong together are given the same values.
abbrev pub AgreeFromFresh : Matching → Drawing → Drawing → Type 0
AgreeFromFresh m p b = (scans : List TwoScans) → AreRuns m p b scans (fresh p) (fresh b) → AgreeAfterEach m p b scans (fresh p) (fresh b)

-- Of pairs of numbers of one program and of another: they are of inputs of both, and no input is in two pairs.
pub record ArePairsOfInputs (p b : Drawing) (pairs : List Pair) : Type 0 where
  pub are_inputs : All (AreBoth true p b) pairs
  pub old_once : AllPairs (λ x y. x.old ≢ y.old) pairs
  pub new_once : AreOnce pairs

-- One program stands in another: what belongs together is alike after each scan, whatever the other inputs of that one are.
pub record IsPart (m : Matching) (p b : Drawing) : Type 0 where
  pub agree : AgreeFromFresh m p b
  pub inputs : ArePairsOfInputs p b m.inputs

-- Of pairs of inputs of two programs, and pairs of each with those of a third one: two inputs are in a pair just where both are with the same input.
pub record ShareInputs (pairs of_old of_new : List Pair) : Type 0 where
  pub shared : (x y : Pair) → Contains of_old x → Contains of_new y → x.new ≡ y.new → Contains pairs (record { old = x.old; new = y.old })
  pub together : (x : Pair) → Contains pairs x
      → (i : ℕ) × Contains of_old (record { old = x.old; new = i }) × Contains of_new (record { old = x.new; new = i })

-- Two programs stand side by side in b, and share the inputs that belong together.
pub record AreBeside (m of_old of_new : Matching) (p q b : Drawing) : Type 0 where
  pub old : IsPart of_old p b
  pub new : IsPart of_new q b
  pub inputs : ShareInputs m.inputs of_old.inputs of_new.inputs

-- The programs do that are named so.
abbrev pub StandBeside : Sides → Type 0
StandBeside s = AreBeside s.matching.now s.of_old.now s.of_new.now s.old.now s.new.now s.both.now
