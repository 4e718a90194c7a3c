-- Private: witnesses that are kept, one after the other.
use Rattle.std.specs.Prelude.{◌≡◌, ◌++◌, Bool, true, false, All, List, [], map}
use Rattle.diagram_program.specs.Program.{Drawing}
use Rattle.diff_matching.specs.Matching.{Matching}
use Rattle.diff_meaning.specs.Counting.{CountAssuming}
use Rattle.diff_meaning.specs.Verdicts.{Shows, target_of}
use Rattle.diff_meaning.specs.Witnesses.{Difference, shown_by}
use Rattle.diff_meaning.specs.declared.counted.Counted.{Counted}
use Rattle.diff_meaning.specs.declared.verdict.PairSort.TheVariants.{Variables, Instances, Memories}
use Rattle.diff_meaning.specs.declared.verdict.Verdicts.{Verdicts}
use Rattle.diff_meaning.specs.declared.witness.Witness.{Witness}
use Rattle.diff_rungs.specs.Common.{AreLeftAlike}
use Rattle.diff_rungs.specs.declared.leaving.InCommon.{InCommon}

-- The states of each witness show its difference.
abbrev pub AllShow : Counted → Matching → Drawing → Drawing → List Witness → Type 0
AllShow c m p q witnesses = All (λ w. Shows (CountAssuming c) m p q w.target w.old_state w.new_state w.of_old w.of_new) witnesses

-- The second list is the first one with a witness of each of the differences after it, where they are kept, and else it is the first.
pub record AreKept (c : Counted) (m : Matching) (p q : Drawing) (keeps : Bool) (differences : List Difference) (before after : List Witness) : Type 0 where
  pub each : keeps ≡ true → map shown_by after ≡ map shown_by before ++ differences
  pub show : AllShow c m p q before → AllShow c m p q after
  pub none : keeps ≡ false → after ≡ before

-- There are no verdicts.
pub record AreEmpty (v : Verdicts) : Type 0 where
  pub variables : v.variables.items ≡ []
  pub instances : v.instances.items ≡ []
  pub memories : v.memories.items ≡ []

-- What is marked is left alike.
pub record AreInCommon (m : Matching) (p q : Drawing) (alike : InCommon) : Type 0 where
  pub variables : AreLeftAlike (target_of Variables) m.variables alike.variables.items m p q
  pub instances : AreLeftAlike (target_of Instances) m.instances alike.instances.items m p q
  pub memories : AreLeftAlike (target_of Memories) m.memories alike.memories.items m p q
