-- The evaluation of one rung: its power flow, over any signal, from the values at its start, and then its effects over truth values, by
-- column, then row, each seeing what the ones before it left.
use Rattle.std.specs.Prelude.{◌≡◌, ℕ, ◌+◌, ◌/◌, ◌%◌, Bool, false, if◌then◌else◌, List, length, map, slice_index_or, slice_set, zero, suc}
use Rattle.diagram_program.specs.declared.geometry.TheConstants.{ROWS, PLACES}
use Rattle.diagram_program.specs.declared.cell.Cell.{Cell}
use Rattle.diagram_program.specs.declared.cell.Cell.TheVariants.{Contact, Coil, Block}
use Rattle.diagram_declarations.specs.declared.kind.BlockKind.TheVariants.{Ton}
use Rattle.scan_signals.specs.declared.block.Stored.{Stored}
use Rattle.scan_signals.specs.Algebra.{Algebra}
use Rattle.scan_signals.specs.Truth.{plain}
use Rattle.scan_cycle.specs.Routes.{Circuit, left_link}
use Rattle.scan_signals.specs.Blocks.{step, q_of, new_block}
use Rattle.diagram_program.specs.Program.{is_block}
use Rattle.scan_cycle.specs.Cells.{place_at, Diagram, Frame, Kept, at, put_in, memory_of, operand_value, stored_by, closed, q_here}

-- A lower cell without a link has OFF.
abbrev pub lower : {S : Type 0} → Algebra S → Bool → S → S
lower o linked link = if linked then link else o.known false

-- A rung as the power sees it, from the values, memories and blocks at its start.
abbrev pub circuit : {S : Type 0} → Algebra S → Diagram → Kept → ℕ → ℕ → Frame S → Circuit S
circuit o d k now j f =
    let cell = λ (row column : ℕ). d.cell j (place_at row column) in record {
      feeds = d.feeds j;
      is_block = λ row column. is_block (cell row column);
      closed = λ row column. closed o f (o.known (memory_of k (cell row column))) (cell row column);
      q = λ row column x y. q_here o d k now (cell row column) x (lower o (d.linked j (place_at row column)) y);
    }

-- The left link of the cell at a place of rung j.
abbrev pub link : {S : Type 0} → Algebra S → Diagram → Kept → ℕ → ℕ → Frame S → ℕ → S
link o d k now j f place = left_link o (circuit o d k now j f) (place % ROWS) (place / ROWS)

-- The second input of the block at a place, where these are the left links of the rung.
abbrev pub second : {S : Type 0} → Algebra S → Diagram → ℕ → (ℕ → S) → ℕ → S
second o d j links place = lower o (d.linked j place) (links (place + 1))

-- ---- over truth values

-- What a scan changes.
pub record Held : Type 0 where
  pub values : List Bool
  pub kept : Kept

abbrev pub held : List Bool → List Bool → List Stored → Held
held values memories blocks = record { values = values; kept = record { memories = memories; blocks = blocks } }

-- What contacts see from the start of a rung on.
abbrev pub frame_of : Held → Frame Bool
frame_of h = record { values = h.values; ends = map q_of h.kept.blocks }

-- As many values and Qs as variables and instances.
pub record SameSizes {S : Type 0} (f : Frame S) (h : Held) : Type 0 where
  pub values : length f.values ≡ length h.values
  pub ends : length f.ends ≡ length h.kept.blocks

-- As many variables, memories and instances.
pub record SameLengths (g h : Held) : Type 0 where
  pub values : length g.values ≡ length h.values
  pub memories : length g.kept.memories ≡ length h.kept.memories
  pub blocks : length g.kept.blocks ≡ length h.kept.blocks

-- What a cell with left link x and second input y leaves, in a rung that began with the frame `start`: a contact remembers the value that
-- its operand had then, whatever its left link; a coil writes its variable and remembers its link; a block makes its step.
abbrev pub changed : Diagram → ℕ → Frame Bool → Cell → Bool → Bool → Held → Held
changed d now start (Contact mode operand memory) x y h = held h.values (put_in h.kept.memories memory (operand_value plain start operand)) h.kept.blocks
changed d now start (Coil mode var memory) x y h =
    let value = stored_by plain mode x (at h.kept.memories memory false) (slice_index_or h.values var false) in
    held (slice_set h.values var value) (put_in h.kept.memories memory x) h.kept.blocks
changed d now start (Block inst) x y h =
    let stored = step (d.kind inst) (d.preset inst) (slice_index_or h.kept.blocks inst (new_block Ton)) x y now in
    held h.values h.kept.memories (slice_set h.kept.blocks inst stored)
changed d now start other x y h = h

-- After the cells at the places below n.
unfoldable pub changes : Diagram → ℕ → ℕ → Frame Bool → (ℕ → Bool) → ℕ → Held → Held
changes d now j start links zero h = h
changes d now j start links (suc n) h =
    changed d now start (d.cell j n) (links n) (second plain d j links n) (changes d now j start links n h)

abbrev pub link_at : Diagram → ℕ → ℕ → Held → ℕ → Bool
link_at d now j h = link plain d h.kept now j (frame_of h)

-- Rung j evaluated.
abbrev pub evaluated : Diagram → ℕ → ℕ → Held → Held
evaluated d now j h = changes d now j (frame_of h) (link_at d now j h) PLACES h
