-- Two states of which all is the same that is marked.
use Rattle.std.specs.Prelude.{◌≡◌, ◌<◌, ℕ, Bool, false, List, Some, length, slice_get, slice_index_or}
use Rattle.diagram_declarations.specs.declared.kind.BlockKind.TheVariants.{Ton}
use Rattle.scan_signals.specs.Blocks.{new_block}
use Rattle.scan_cycle.specs.Rung.{Held}
use Rattle.diff_matching.specs.declared.matching.Pair.{Pair}
use Rattle.diff_matching.specs.Matching.{Matching}
use Rattle.diff_rungs.specs.declared.marks.Marks.{Marks}
use Rattle.diff_rungs.specs.declared.marks.Side.{Side}
use Rattle.diff_rungs.specs.declared.marks.Side.TheVariants.{Old, New}
use Rattle.diff_rungs.specs.Marks.{HasMark}

-- What each marked pair names is the same in the one list and in the other; no pair names anything past their ends.
pub record IsSame {A : Type 0} (none : A) (pairs : List Pair) (marks : List Bool) (xs ys : List A) : Type 0 where
  pub same : (n : ℕ) (x : Pair) → slice_get pairs n ≡ Some x → HasMark marks n → slice_index_or xs x.old none ≡ slice_index_or ys x.new none
  pub inside : (n : ℕ) (x : Pair) → slice_get pairs n ≡ Some x → (x.old < length xs) × (x.new < length ys)

pub record AreSame (m : Matching) (c : Marks) (h g : Held) : Type 0 where
  pub inputs : IsSame false m.inputs c.inputs.items h.values g.values
  pub variables : IsSame false m.variables c.variables.items h.values g.values
  pub instances : IsSame (new_block Ton) m.instances c.instances.items h.kept.blocks g.kept.blocks
  pub memories : IsSame false m.memories c.memories.items h.kept.memories g.kept.memories

-- A relation between OLD and NEW, as it is seen from one of the programs.
abbrev pub From : {A : Type 0} → Side → (A → A → Type 0) → A → A → Type 0
From Old R x y = R x y
From New R x y = R y x
