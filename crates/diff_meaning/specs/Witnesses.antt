-- The states that show the differences that verdicts tell.
use Rattle.std.specs.Prelude.{◌≡◌, ◌++◌, ◌∷◌, Bool, All, List, [], map}
use Rattle.diagram_program.specs.Program.{Drawing}
use Rattle.scan_cycle.specs.Rung.{Held}
use Rattle.diff_matching.specs.declared.matching.Pair.{Pair}
use Rattle.diff_matching.specs.Matching.{Matching}
use Rattle.diff_cases.specs.declared.target.Target.{Target}
use Rattle.diff_meaning.specs.Verdicts.{Shows, target_of}
use Rattle.diff_meaning.specs.declared.verdict.PairSort.{PairSort}
use Rattle.diff_meaning.specs.declared.verdict.PairSort.TheVariants.{Variables, Instances, Memories}
use Rattle.diff_meaning.specs.declared.verdict.Verdict.{Verdict}
use Rattle.diff_meaning.specs.declared.verdict.Verdict.TheVariants.{Differs}
use Rattle.diff_meaning.specs.declared.verdict.Verdicts.{Verdicts}
use Rattle.diff_meaning.specs.declared.witness.Witness.{Witness}

-- what differs, and what one scan of each program leaves of it
pub record Difference : Type 0 where
  pub target : Target
  pub of_old : Bool
  pub of_new : Bool

-- the difference that a verdict tells, where it tells one
abbrev pub told_by : Target → Verdict → List Difference
told_by target (Differs a b) = record { target = target; of_old = a; of_new = b } ∷ []
told_by target other = []

-- the differences that the verdicts on a sort tell, in the order of its pairs
unfoldable pub told_of : PairSort → List Pair → List Verdict → List Difference
told_of sort [] verdicts = []
told_of sort (x ∷ more) [] = []
told_of sort (x ∷ more) (v ∷ others) = told_by (target_of sort x) v ++ told_of sort more others

-- the differences that verdicts tell: of variables, then of instances, then of memories
abbrev pub told : Matching → Verdicts → List Difference
told m v = told_of Variables m.variables v.variables.items ++ told_of Instances m.instances v.instances.items ++ told_of Memories m.memories v.memories.items

-- the difference that a witness is of
abbrev pub shown_by : Witness → Difference
shown_by w = record { target = w.target; of_old = w.of_old; of_new = w.of_new }

-- Of each difference that the verdicts tell there is one witness, in their order, and its states show it.
pub record AreWitnesses (Counts : Held → Held → Type 0) (m : Matching) (p q : Drawing) (v : Verdicts) (witnesses : List Witness) : Type 0 where
  pub each : map shown_by witnesses ≡ told m v
  pub show : All (λ w. Shows Counts m p q w.target w.old_state w.new_state w.of_old w.of_new) witnesses
