-- What is known where two states agree: what is known in one program of what a pair names is known in the other too.
use Rattle.std.specs.Prelude.{ℕ, List, [], ◌∷◌}
use Rattle.scan_signals.specs.declared.tri.Tri.{Tri}
use Rattle.scan_signals.specs.declared.tri.Tri.TheVariants.{Unsure}
use Rattle.scan_symbolic.specs.KnownScan.{Known}
use Rattle.invariant_cases.specs.Cases.{pinned, told}
use Rattle.invariant_cases.specs.declared.outcome.Outcome.{Outcome}
use Rattle.invariant_cases.specs.declared.point.Point.{Point}
use Rattle.invariant_cases.specs.declared.point.Point.TheVariants.{Variable, Output, Memory}
use Rattle.diff_cases.specs.declared.buffers.AlikeBuffers.{AlikeBuffers}
use Rattle.diff_matching.specs.declared.matching.Pair.{Pair}
use Rattle.diff_meaning.specs.declared.verdict.PairSort.{PairSort}
use Rattle.diff_meaning.specs.declared.verdict.PairSort.TheVariants.{Variables, Instances, Memories}

-- What is known of a state of each program.
pub record Knowns : Type 0 where
  pub of_old : Known Tri Outcome
  pub of_new : Known Tri Outcome

-- Private: what the buffers know before the scans.
abbrev pub knowns_in : AlikeBuffers → Knowns
knowns_in b = record { of_old = b.of_old.case; of_new = b.of_new.case }

-- The point that a pair of a sort names in a program by this number: a variable, the Q of an instance, or a memory.
abbrev pub point_in : PairSort → ℕ → Point
point_in Variables i = Variable i
point_in Instances i = Output i
point_in Memories i = Memory i

-- what is known where the point has this value as well, if that is known
abbrev pub known_also : Known Tri Outcome → Point → Tri → Known Tri Outcome
known_also k x Unsure = k
known_also k x t = pinned k x t

-- each knows what the other does of a pair
abbrev pub carried : PairSort → Pair → Knowns → Knowns
carried sort x k = record {
  of_old = known_also k.of_old (point_in sort x.old) (told (point_in sort x.new) k.of_new);
  of_new = known_also k.of_new (point_in sort x.new) (told (point_in sort x.old) k.of_old);
}

-- and of all pairs of a sort, one after the other
unfoldable pub carried_all : PairSort → List Pair → Knowns → Knowns
carried_all sort [] k = k
carried_all sort (x ∷ more) k = carried_all sort more (carried sort x k)
