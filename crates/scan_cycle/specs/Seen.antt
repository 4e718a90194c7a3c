-- What is seen of a scan at each place of the drawing: the power of its wires, and what is closed or ON.
use Rattle.std.specs.Prelude.{◌≡◌, ◌<◌, ◌⊎◌, ℕ, Bool, true, false, if◌then◌else◌, ◌&&◌, ◌*◌, ◌+◌, List, length, slice_index_or}
use Rattle.diagram_declarations.specs.declared.kind.BlockKind.TheVariants.{Ton}
use Rattle.diagram_program.specs.declared.geometry.TheConstants.{PLACES}
use Rattle.diagram_program.specs.declared.cell.Cell.{Cell}
use Rattle.diagram_program.specs.declared.cell.Cell.TheVariants.{Contact, Coil, Block}
use Rattle.diagram_program.specs.Program.{is_block}
use Rattle.scan_cycle.specs.declared.seen.Mark.{Mark}
use Rattle.scan_signals.specs.Truth.{plain}
use Rattle.scan_signals.specs.Blocks.{q_of, new_block}
use Rattle.scan_cycle.specs.Cells.{Diagram, memory_of, closed, q_here}
use Rattle.scan_cycle.specs.Rung.{Held, frame_of, link_at, second, evaluated}
use Rattle.scan_cycle.specs.Scan.{given, next_rung}

-- ---- at one place

-- What a cell holds after its rung, where `closed` tells whether it is a closed contact: a contact whether it is closed, a coil
-- the value of its variable, a block its output.
abbrev pub is_on : Bool → Held → Cell → Bool
is_on closed h (Contact mode operand memory) = closed
is_on closed h (Coil mode var memory) = slice_index_or h.values var false
is_on closed h (Block inst) = q_of (slice_index_or h.kept.blocks inst (new_block Ton))
is_on closed h other = false

-- What the cell at a place of rung j lets through, in the state at the rung's start: a block its Q, another cell its left link where
-- it is closed.
abbrev pub lets_through : Diagram → ℕ → ℕ → Held → ℕ → Bool
lets_through d now j start place =
    let cell = d.cell j place in
    let left = link_at d now j start place in
    if is_block cell then q_here plain d start.kept now cell left (second plain d j (link_at d now j start) place)
    else left && closed plain (frame_of start) (memory_of start.kept cell) cell

-- A place of rung j, evaluated from the state `start`. Contacts are asked at the start of the rung, coils and blocks after it.
abbrev pub mark_in : Diagram → ℕ → ℕ → Held → ℕ → Mark
mark_in d now j start place = record {
  evaluated = true;
  left = link_at d now j start place;
  right = lets_through d now j start place;
  on = is_on (closed plain (frame_of start) (memory_of start.kept (d.cell j place)) (d.cell j place)) (evaluated d now j start) (d.cell j place);
}

-- A place of a rung that is passed over has no power, and its contacts are not asked. Its coils and blocks keep what they hold.
abbrev pub mark_passed : Held → Cell → Mark
mark_passed h cell = record { evaluated = false; left = false; right = false; on = is_on false h cell }

-- ---- in a whole scan

-- A scan that begins with `first` evaluates rung j from the state `start`: rung 0 from the first state, and after each rung the next one
-- from what it leaves.
pub data Comes (d : Diagram) (now : ℕ) (first : Held) : ℕ → Held → Type 0 where
  at_first : Comes d now first 0 first
  goes_on : (j : ℕ) (start : Held) → Comes d now first j start → Comes d now first (next_rung d now j start) (evaluated d now j start)

-- It passes over rung j with the state `kept`, by the jump of a rung above.
pub record PassesOver (d : Diagram) (now : ℕ) (first : Held) (j : ℕ) (kept : Held) : Type 0 where
  pub above : ℕ
  pub start : Held
  pub comes : Comes d now first above start
  pub between : (above < j) × (j < next_rung d now above start)
  pub leaves : kept ≡ evaluated d now above start

abbrev pub mark_at : List Mark → ℕ → ℕ → Mark
mark_at marks j place =
    slice_index_or marks (PLACES * j + place) (record { evaluated = false; left = false; right = false; on = false })

-- The marks of the scan that begins with `first`, by rung, column and row: each rung is evaluated or passed over.
pub record AreMarksFrom (d : Diagram) (now : ℕ) (first : Held) (marks : List Mark) : Type 0 where
  pub as_many : length marks ≡ PLACES * d.rungs
  pub each : (j place : ℕ) → j < d.rungs → place < PLACES →
      ((start : Held) × Comes d now first j start × (mark_at marks j place ≡ mark_in d now j start place))
      ⊎ ((kept : Held) × PassesOver d now first j kept × (mark_at marks j place ≡ mark_passed kept (d.cell j place)))

-- The marks of one scan with these inputs.
abbrev pub AreMarks : Diagram → ℕ → List Bool → Held → List Mark → Type 0
AreMarks d now inputs h marks = AreMarksFrom d now (record { values = given d.inputs inputs h.values; kept = h.kept }) marks

-- No scan has other marks.
abbrev pub OneSight : Diagram → Type 0
OneSight d = (now : ℕ) (inputs : List Bool) (h : Held) (a b : List Mark) → AreMarks d now inputs h a → AreMarks d now inputs h b → a ≡ b
