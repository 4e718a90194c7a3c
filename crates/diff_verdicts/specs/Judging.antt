-- A judge: what a caller sees of it, and what it judges with.
use Rattle.std.specs.Prelude.{◌≡◌, length, replicate}
use Rattle.diagram_program.specs.Program.{Drawing}
use Rattle.scan_signals.specs.declared.tri.Tri.{Tri}
use Rattle.scan_signals.specs.declared.tri.Tri.TheVariants.{Unsure}
use Rattle.scan_cycle.specs.Standing.{Fits, Standing}
use Rattle.scan_symbolic.specs.KnownScan.{Known}
use Rattle.invariant_cases.specs.declared.outcome.Outcome.{Outcome}
use Rattle.invariant_sets.specs.Never.{Bits, knowing}
use Rattle.diff_matching.specs.Matching.{Matching}
use Rattle.diff_cases.specs.Alike.{IsComparable}
use Rattle.diff_cases.specs.Cases.{IsToldAlike}
use Rattle.diff_cases.specs.declared.target.Target.{Target}
use Rattle.diff_meaning.specs.declared.counted.Counted.{Counted}
use Rattle.diff_meaning.specs.declared.counted.CountedStates.{CountedStates}
use Rattle.diff_meaning.specs.declared.counted.CountedStates.TheVariants.{All, Reachable}
use Rattle.diff_meaning.specs.declared.verdict.PairSort.TheVariants.{Variables, Instances}
use Rattle.diff_meaning.specs.declared.verdict.TheConstants.{MOMENT}
use Rattle.diff_verdicts.specs.Carrying.{Knowns, carried_all}
use Rattle.diff_verdicts.specs.declared.opening.Nothing.{Nothing}
use Rattle.diff_verdicts.specs.declared.checking.Tried.{Tried}

-- What a caller sees: the two programs, what belongs together in them, which states count, and the states that showed a difference last.
pub record Judging : Type 0 where
  pub old_program : Drawing
  pub new_program : Drawing
  pub matching : Matching
  pub counted : Counted
  pub old_state : Standing
  pub new_state : Standing

-- The second judges the same programs by the same matching, and the same states count.
pub record JudgesTheSame (j k : Judging) : Type 0 where
  pub old_program : k.old_program ≡ j.old_program
  pub new_program : k.new_program ≡ j.new_program
  pub matching : k.matching ≡ j.matching
  pub counted : k.counted ≡ j.counted

-- The set that claims nothing of the program.
abbrev pub no_claims : Drawing → Bits
no_claims p = record { variables = replicate (length p.decls.vars) Unsure; instances = replicate (length p.decls.instances) Unsure }

-- All that is known of any state of the program.
abbrev pub knowing_nothing : Drawing → Known Tri Outcome
knowing_nothing p = knowing p (no_claims p)

-- All that is known of two states that agree and are among these: nothing, or what stays so in each program, and of what belongs together in both.
abbrev pub opening_among : CountedStates → Matching → Drawing → Drawing → Knowns
opening_among All m p q = record { of_old = knowing_nothing p; of_new = knowing_nothing q }
opening_among (Reachable old new) m p q =
    carried_all Instances m.instances (carried_all Variables m.variables (record { of_old = knowing p old.steady; of_new = knowing q new.steady }))

abbrev pub opening : Counted → Matching → Drawing → Drawing → Knowns
opening c m p q = opening_among c.states m p q

-- One scan of each over three values tells that the target is left alike, from all that is known where states agree and count.
abbrev pub IsToldAtOnce : Counted → Matching → Drawing → Drawing → Target → Type 0
IsToldAtOnce c m p q target = IsComparable m p q target × IsToldAlike p q target (opening c m p q).of_old (opening c m p q).of_new

-- Private: both sets claim nothing.
pub record ClaimNothing (p q : Drawing) (n : Nothing) : Type 0 where
  pub of_old : n.of_old ≡ no_claims p
  pub of_new : n.of_new ≡ no_claims q

-- Private: the states are of the two programs, and those before a scan at the moment at which they are tried.
pub record AreTried (p q : Drawing) (t : Tried) : Type 0 where
  pub old_fits : Fits p t.old_state
  pub new_fits : Fits q t.new_state
  pub old_moment : t.old_state.moment ≡ MOMENT
  pub new_moment : t.new_state.moment ≡ MOMENT
  pub old_end : Fits p t.old_end
  pub new_end : Fits q t.new_end
