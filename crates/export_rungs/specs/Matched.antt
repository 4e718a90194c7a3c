-- A state of a drawing, and one of statements that do what the drawing does.
use Rattle.std.specs.Prelude.{◌≡◌, ℕ, ◌+◌, ◌<◌, ◌≤◌, Bool, false, List, length, slice_index_or}
use Rattle.diagram_program.specs.Program.{Drawing, memories_of}
use Rattle.scan_cycle.specs.Rung.{Held}

-- They have the same: the variables of the drawing come first among those of the statements, then one for the memory of each edge contact and edge
-- coil, in the order of their numbers; the blocks are the same. What the statements have behind these doesn't count.
pub record AreMatched (d : Drawing) (variables : ℕ) (g h : Held) : Type 0 where
  pub fits : length g.values ≡ length d.decls.vars
  pub remembers : length g.kept.memories ≡ memories_of d
  pub instances : length g.kept.blocks ≡ length d.decls.instances
  pub long : length h.values ≡ variables
  pub enough : length d.decls.vars + memories_of d ≤ variables
  pub values : (i : ℕ) → i < length d.decls.vars → slice_index_or h.values i false ≡ slice_index_or g.values i false
  pub memories : (i : ℕ) → i < memories_of d → slice_index_or h.values (length d.decls.vars + i) false ≡ slice_index_or g.kept.memories i false
  pub blocks : h.kept.blocks ≡ g.kept.blocks

-- Behind the memories, the statements have these values: one for each jump, which says whether it was taken.
pub record AreFlagged (d : Drawing) (flags : List Bool) (h : Held) : Type 0 where
  pub room : length d.decls.vars + memories_of d + length flags ≤ length h.values
  pub each : (i : ℕ) → i < length flags → slice_index_or h.values (length d.decls.vars + memories_of d + i) false ≡ slice_index_or flags i false
