-- What is told of one scan of each of two programs: that it leaves a thing alike from all states that agree and count, or that some of them show a
-- difference. Which two states count is a parameter.
use Rattle.std.specs.Prelude.{◌≡◌, ℕ, Bool, false, All, Contains, List, Some, length, slice_get, slice_index_or}
use Rattle.diagram_declarations.specs.declared.kind.BlockKind.TheVariants.{Ton}
use Rattle.diagram_program.specs.Program.{Drawing}
use Rattle.scan_signals.specs.Blocks.{new_block, q_of}
use Rattle.scan_cycle.specs.Rung.{Held}
use Rattle.scan_cycle.specs.Standing.{Standing}
use Rattle.diff_matching.specs.declared.matching.Pair.{Pair}
use Rattle.diff_matching.specs.Matching.{AreShared, Matching, scanned}
use Rattle.diff_cases.specs.Alike.{AreAlike}
use Rattle.diff_cases.specs.declared.target.Target.{Target}
use Rattle.diff_cases.specs.declared.target.Target.TheVariants.{Variable, Memory, Contents}
use Rattle.diff_meaning.specs.declared.verdict.TheConstants.{MOMENT}
use Rattle.diff_meaning.specs.declared.verdict.PairSort.{PairSort}
use Rattle.diff_meaning.specs.declared.verdict.PairSort.TheVariants.{Variables, Instances, Memories}
use Rattle.diff_meaning.specs.declared.verdict.Verdict.{Verdict}
use Rattle.diff_meaning.specs.declared.verdict.Verdict.TheVariants.{Same, Differs, Unsettled}
use Rattle.diff_meaning.specs.declared.verdict.Verdicts.{Verdicts}

-- One scan of each program at the same moment, from any states that agree and count, leaves the target alike.
abbrev pub LeavesAlikeWhere : (Held → Held → Type 0) → Matching → Drawing → Drawing → Target → Type 0
LeavesAlikeWhere Counts m p q target = (moment : ℕ) (s t : Standing) → AreShared m p q moment s t → Counts s.held t.held
    → AreAlike target (scanned p moment s) (scanned q moment t)

-- Two states that agree and count, and one scan of each at the moment leaves the target different: they are a witness of a difference.
pub record IsWitness (Counts : Held → Held → Type 0) (m : Matching) (p q : Drawing) (moment : ℕ) (target : Target) (s t : Standing) : Type 0 where
  pub shared : AreShared m p q moment s t
  pub count : Counts s.held t.held
  pub differ : AreAlike target (scanned p moment s) (scanned q moment t) → ⊥

-- what a state of OLD has of the target: the value of the variable, the memory, or the Q of the instance
abbrev pub old_value : Target → Held → Bool
old_value (Variable x) h = slice_index_or h.values x.old false
old_value (Memory x) h = slice_index_or h.kept.memories x.old false
old_value (Contents x) h = q_of (slice_index_or h.kept.blocks x.old (new_block Ton))

-- the same of a state of NEW
abbrev pub new_value : Target → Held → Bool
new_value (Variable x) h = slice_index_or h.values x.new false
new_value (Memory x) h = slice_index_or h.kept.memories x.new false
new_value (Contents x) h = q_of (slice_index_or h.kept.blocks x.new (new_block Ton))

-- Two states are a witness of a difference at the moment at which states are tried, and one scan of each leaves these values.
pub record Shows (Counts : Held → Held → Type 0) (m : Matching) (p q : Drawing) (target : Target) (s t : Standing) (a b : Bool) : Type 0 where
  pub witness : IsWitness Counts m p q MOMENT target s t
  pub of_old : a ≡ old_value target (scanned p MOMENT s)
  pub of_new : b ≡ new_value target (scanned q MOMENT t)

-- Some states do.
abbrev pub SomeShow : (Held → Held → Type 0) → Matching → Drawing → Drawing → Target → Bool → Bool → Type 0
SomeShow Counts m p q target a b = (s : Standing) × (t : Standing) × Shows Counts m p q target s t a b

-- The verdict is true of the target. Where it isn't settled nothing is said.
abbrev pub IsTrueOf : (Held → Held → Type 0) → Matching → Drawing → Drawing → Target → Verdict → Type 0
IsTrueOf Counts m p q target Same = LeavesAlikeWhere Counts m p q target
IsTrueOf Counts m p q target (Differs a b) = SomeShow Counts m p q target a b
IsTrueOf Counts m p q target Unsettled = Unit {0}

-- Instances are judged where the matching has the pair. Of variables and memories any two can be.
abbrev pub CanBeJudged : Matching → Target → Type 0
CanBeJudged m (Contents x) = Contains m.instances x
CanBeJudged m other = Unit {0}

-- the pairs of a sort, and what one of them names
abbrev pub pairs_of : PairSort → Matching → List Pair
pairs_of Variables m = m.variables
pairs_of Instances m = m.instances
pairs_of Memories m = m.memories

abbrev pub target_of : PairSort → Pair → Target
target_of Variables x = Variable x
target_of Instances x = Contents x
target_of Memories x = Memory x

-- There are as many verdicts as pairs of the sort, in the order of the matching, and each is true of what its pair names.
pub record AreTrueOf (Counts : Held → Held → Type 0) (m : Matching) (p q : Drawing) (sort : PairSort) (verdicts : List Verdict) : Type 0 where
  pub as_many : length verdicts ≡ length (pairs_of sort m)
  pub each : (n : ℕ) (x : Pair) (verdict : Verdict) → slice_get (pairs_of sort m) n ≡ Some x → slice_get verdicts n ≡ Some verdict
      → IsTrueOf Counts m p q (target_of sort x) verdict

-- The verdicts are true of all that belongs together.
pub record AreTrue (Counts : Held → Held → Type 0) (m : Matching) (p q : Drawing) (verdicts : Verdicts) : Type 0 where
  pub variables : AreTrueOf Counts m p q Variables verdicts.variables.items
  pub instances : AreTrueOf Counts m p q Instances verdicts.instances.items
  pub memories : AreTrueOf Counts m p q Memories verdicts.memories.items

-- All that belongs together is left alike.
pub record AreAllSame (verdicts : Verdicts) : Type 0 where
  pub variables : All (λ v. v ≡ Same) verdicts.variables.items
  pub instances : All (λ v. v ≡ Same) verdicts.instances.items
  pub memories : All (λ v. v ≡ Same) verdicts.memories.items
