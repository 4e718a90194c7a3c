-- Which states of two programs count.
use Rattle.diagram_program.specs.Program.{Drawing}
use Rattle.scan_cycle.specs.Rung.{Held}
use Rattle.scan_cycle.specs.Standing.{fresh}
use Rattle.invariant_runs.specs.Staying.{IsStayingOf, StaysSo}
use Rattle.invariant_sets.specs.Invariants.{IsStaying, IsStayingAssuming}
use Rattle.diff_cases.specs.Assuming.{AreTrueIn, BothAssumed, assumed_of_both}
use Rattle.diff_meaning.specs.declared.counted.Counted.{Counted}
use Rattle.diff_meaning.specs.declared.counted.CountedStates.{CountedStates}
use Rattle.diff_meaning.specs.declared.counted.CountedStates.TheVariants.{All, Reachable}

-- Two states count: any two do, or it is so in each what stays so in its program.
abbrev pub Count : CountedStates → Held → Held → Type 0
Count All h g = Unit {0}
Count (Reachable old new) h g = StaysSo old h × StaysSo new g

-- Where something is assumed, these count in which it is true.
pub record CountAssuming (c : Counted) (h g : Held) : Type 0 where
  pub among : Count c.states h g
  pub true_in : AreTrueIn (assumed_of_both c.assumed) h g

-- What stays so is said of the variables and instances of each program, and of no input.
abbrev pub AreOfPrograms : CountedStates → Drawing → Drawing → Type 0
AreOfPrograms All p q = Unit {0}
AreOfPrograms (Reachable old new) p q = IsStayingOf p old × IsStayingOf q new

-- It stays so from the fresh state of each program on, so that all states that runs from there reach count.
abbrev pub StayFromFresh : CountedStates → Drawing → Drawing → Type 0
StayFromFresh All p q = Unit {0}
StayFromFresh (Reachable old new) p q = IsStaying p (fresh p) old × IsStaying q (fresh q) new

-- It does in runs in which what is assumed is true.
abbrev pub StayFromFreshAssuming : BothAssumed → CountedStates → Drawing → Drawing → Type 0
StayFromFreshAssuming a All p q = Unit {0}
StayFromFreshAssuming a (Reachable old new) p q = IsStayingAssuming p a.of_old (fresh p) old × IsStayingAssuming q a.of_new (fresh q) new
