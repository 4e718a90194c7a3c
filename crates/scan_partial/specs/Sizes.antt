-- How many values, memories and instances are known, and what the buffers of a scan have room for.
use Rattle.std.specs.Prelude.{◌≡◌, ℕ, length}
use Rattle.diagram_program.specs.Program.{Drawing, memories_of}
use Rattle.scan_cycle.specs.Cells.{Frame}
use Rattle.scan_cycle.specs.Rung.{Held}
use Rattle.scan_symbolic.specs.KnownScan.{Known}

-- As many as the variables, memories and instances of a program.
pub record HasSizes {S B : Type 0} (p : Drawing) (k : Known S B) : Type 0 where
  pub values : length k.values ≡ length p.decls.vars
  pub memories : length k.memories ≡ memories_of p
  pub blocks : length k.blocks ≡ length p.decls.instances

-- As many as in a state.
pub record IsAsLong {S B : Type 0} (k : Known S B) (h : Held) : Type 0 where
  pub values : length k.values ≡ length h.values
  pub memories : length k.memories ≡ length h.kept.memories
  pub blocks : length k.blocks ≡ length h.kept.blocks

-- As many in both.
pub record AreAsLong {S B : Type 0} (k l : Known S B) : Type 0 where
  pub values : length k.values ≡ length l.values
  pub memories : length k.memories ≡ length l.memories
  pub blocks : length k.blocks ≡ length l.blocks

-- How many variables, instances and rungs the buffers of a scan are for.
pub record Spare : Type 0 where
  pub variables : ℕ
  pub instances : ℕ
  pub rungs : ℕ

-- They are for this program.
pub record IsSpareFor (p : Drawing) (s : Spare) : Type 0 where
  pub variables : s.variables ≡ length p.decls.vars
  pub instances : s.instances ≡ length p.decls.instances
  pub rungs : s.rungs ≡ p.rungs

-- What contacts see has as many values and Qs as there are variables and instances.
pub record AreRoomy {S B : Type 0} (f : Frame S) (k : Known S B) : Type 0 where
  pub values : length f.values ≡ length k.values
  pub ends : length f.ends ≡ length k.blocks
