-- What belongs together in two programs, and when two states agree on it.
use Rattle.std.specs.Prelude.{◌≡◌, ◌≤◌, ◌<◌, ◌^◌, ℕ, false, List, [], Some, slice_get, slice_index_or}
use Rattle.diagram_declarations.specs.declared.kind.BlockKind.TheVariants.{Ton}
use Rattle.scan_signals.specs.Blocks.{new_block}
use Rattle.diagram_program.specs.Program.{Drawing}
use Rattle.scan_cycle.specs.Programs.{diagram_of}
use Rattle.scan_cycle.specs.Rung.{Held}
use Rattle.scan_cycle.specs.Scan.{after_scan}
use Rattle.scan_cycle.specs.Standing.{Fits, IsStanding, Standing}
use Rattle.diff_matching.specs.declared.matching.Pair.{Pair}

-- Pairs of inputs, of other variables, of instances, and of memories of edges. What is in no pair belongs to one program alone.
pub record Matching : Type 0 where
  pub inputs : List Pair
  pub variables : List Pair
  pub instances : List Pair
  pub memories : List Pair

-- What each pair names is the same in the one list and in the other.
abbrev pub AreSame : {A : Type 0} → A → List Pair → List A → List A → Type 0
AreSame none pairs xs ys = (n : ℕ) (x : Pair) → slice_get pairs n ≡ Some x → slice_index_or xs x.old none ≡ slice_index_or ys x.new none

-- Two states agree: what belongs together stores the same, but for the inputs.
pub record Agree (m : Matching) (s t : Held) : Type 0 where
  pub variables : AreSame false m.variables s.values t.values
  pub instances : AreSame (new_block Ton) m.instances s.kept.blocks t.kept.blocks
  pub memories : AreSame false m.memories s.kept.memories t.kept.memories

-- the same of the inputs
abbrev pub AgreeOnInputs : Matching → Held → Held → Type 0
AgreeOnInputs m s t = AreSame false m.inputs s.values t.values

-- Two states of the programs agree, also on the inputs that they store, and the moment is not before theirs. What belongs to one program alone
-- may store anything.
pub record AreShared (m : Matching) (p q : Drawing) (moment : ℕ) (s t : Standing) : Type 0 where
  pub old_fits : Fits p s
  pub new_fits : Fits q t
  pub old_standing : IsStanding s
  pub new_standing : IsStanding t
  pub agree : Agree m s.held t.held
  pub inputs : AgreeOnInputs m s.held t.held
  pub old_later : s.moment ≤ moment
  pub new_later : t.moment ≤ moment
  pub small : moment < 2 ^ 64

-- what one scan leaves in which the inputs keep the values that the state stores
abbrev pub scanned : Drawing → ℕ → Standing → Held
scanned p moment s = after_scan (diagram_of p) moment [] s.held

-- From some states that agree, at some moment, one scan of each leaves the two variables different. The inputs keep the values that the states
-- store, so that they are open as well.
pub record CanDiffer (m : Matching) (p q : Drawing) (old new : ℕ) : Type 0 where
  pub moment : ℕ
  pub old_state : Standing
  pub new_state : Standing
  pub shared : AreShared m p q moment old_state new_state
  pub differ : slice_index_or (scanned p moment old_state).values old false ≡ slice_index_or (scanned q moment new_state).values new false → ⊥

-- One scan of each, from any states that agree, leaves states that agree.
abbrev pub AreEquivalent : Matching → Drawing → Drawing → Type 0
AreEquivalent m p q = (moment : ℕ) (s t : Standing) → AreShared m p q moment s t → Agree m (scanned p moment s) (scanned q moment t)
