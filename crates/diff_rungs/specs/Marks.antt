-- Private: how marks of pairs change.
use Rattle.std.specs.Prelude.{◌≡◌, ◌⊎◌, ℕ, Bool, true, false, List, Option, Some, length, slice_get, slice_index_or}
use Rattle.diagram_program.specs.declared.cell.Cell.{Cell}
use Rattle.diagram_program.specs.Program.{block_in, memory_in}
use Rattle.scan_cycle.specs.Cells.{var_in}
use Rattle.diff_matching.specs.declared.matching.Pair.{Pair}
use Rattle.diff_matching.specs.Matching.{Matching}
use Rattle.diff_rungs.specs.declared.marks.Marks.{Marks}
use Rattle.diff_rungs.specs.declared.marks.Side.{Side}
use Rattle.diff_rungs.specs.declared.marks.Side.TheVariants.{Old, New}

-- the number of a pair in one of the programs
abbrev pub number_in : Side → Pair → ℕ
number_in Old x = x.old
number_in New x = x.new

-- The mark with a number is there.
abbrev pub HasMark : List Bool → ℕ → Type 0
HasMark marks n = slice_index_or marks n false ≡ true

-- The pair is among the pairs, and is marked.
abbrev pub IsMarked : List Pair → List Bool → Pair → Type 0
IsMarked pairs marks x = (n : ℕ) × (slice_get pairs n ≡ Some x) × HasMark marks n

-- What is marked afterwards was so before, and has not that number in the program of the side.
abbrev pub AreSpoiled : Side → Option ℕ → List Pair → List Bool → List Bool → Type 0
AreSpoiled side at pairs before after = (n : ℕ) (x : Pair) → slice_get pairs n ≡ Some x → HasMark after n → (at ≡ Some (number_in side x) → ⊥) × HasMark before n

-- What is marked afterwards was so before, or has both numbers.
abbrev pub AreRestored : Option ℕ → Option ℕ → List Pair → List Bool → List Bool → Type 0
AreRestored old new pairs before after = (n : ℕ) (x : Pair) → slice_get pairs n ≡ Some x → HasMark after n
    → ((old ≡ Some x.old) × (new ≡ Some x.new)) ⊎ HasMark before n

-- There are as many marks as pairs.
pub record AreAsMany (m : Matching) (c : Marks) : Type 0 where
  pub variables : length c.variables.items ≡ length m.variables
  pub instances : length c.instances.items ≡ length m.instances
  pub memories : length c.memories.items ≡ length m.memories

-- As many as before.
pub record StayAsMany (c d : Marks) : Type 0 where
  pub variables : length d.variables.items ≡ length c.variables.items
  pub instances : length d.instances.items ≡ length c.instances.items
  pub memories : length d.memories.items ≡ length c.memories.items

-- The same marks.
pub record HaveSameMarks (c d : Marks) : Type 0 where
  pub inputs : d.inputs.items ≡ c.inputs.items
  pub variables : d.variables.items ≡ c.variables.items
  pub instances : d.instances.items ≡ c.instances.items
  pub memories : d.memories.items ≡ c.memories.items

-- Nothing is marked that a cell of one of the programs writes.
pub record IsCellSpoiled (side : Side) (cell : Cell) (m : Matching) (c d : Marks) : Type 0 where
  pub inputs : AreSpoiled side (var_in cell) m.inputs c.inputs.items d.inputs.items
  pub variables : AreSpoiled side (var_in cell) m.variables c.variables.items d.variables.items
  pub instances : AreSpoiled side (block_in cell) m.instances c.instances.items d.instances.items
  pub memories : AreSpoiled side (memory_in cell) m.memories c.memories.items d.memories.items
  pub many : StayAsMany c d

-- What two cells write may be marked where it is a pair.
pub record AreCellsRestored (a b : Cell) (m : Matching) (c d : Marks) : Type 0 where
  pub inputs : AreRestored (var_in a) (var_in b) m.inputs c.inputs.items d.inputs.items
  pub variables : AreRestored (var_in a) (var_in b) m.variables c.variables.items d.variables.items
  pub instances : AreRestored (block_in a) (block_in b) m.instances c.instances.items d.instances.items
  pub memories : AreRestored (memory_in a) (memory_in b) m.memories c.memories.items d.memories.items
  pub many : StayAsMany c d

-- What is marked afterwards was so before, and in the first list, unless that doesn't count.
abbrev pub AreNarrowed : Bool → List Bool → List Bool → List Bool → Type 0
AreNarrowed surely first before after = (n : ℕ) → HasMark after n → (surely ≡ false → HasMark first n) × HasMark before n

pub record IsNarrowed (surely : Bool) (c d e : Marks) : Type 0 where
  pub inputs : AreNarrowed surely c.inputs.items d.inputs.items e.inputs.items
  pub variables : AreNarrowed surely c.variables.items d.variables.items e.variables.items
  pub instances : AreNarrowed surely c.instances.items d.instances.items e.instances.items
  pub memories : AreNarrowed surely c.memories.items d.memories.items e.memories.items
  pub many : StayAsMany d e
