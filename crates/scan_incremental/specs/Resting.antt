-- When a rung rests, so that a scan may pass over its evaluation, and what is remembered of it from scan to scan.
use Rattle.std.specs.Prelude.{◌≡◌, ℕ, ◌<◌, ◌≤◌, Bool, true, false, not, ◌||◌, ◌&&◌, ◌==◌, List, [], map, Option, Some, None, slice_index_or}
use Rattle.diagram_program.specs.declared.cell.Operand.{Operand}
use Rattle.diagram_program.specs.declared.cell.Operand.TheVariants.{Var, Output}
use Rattle.diagram_program.specs.declared.cell.Cell.{Cell}
use Rattle.diagram_program.specs.declared.cell.Cell.TheVariants.{Contact, Coil, Block}
use Rattle.diagram_declarations.specs.declared.kind.BlockKind.{BlockKind}
use Rattle.diagram_declarations.specs.declared.kind.BlockKind.TheVariants.{Ton}
use Rattle.scan_signals.specs.declared.block.Stored.{Stored}
use Rattle.scan_signals.specs.declared.block.Stored.TheVariants.{Timer}
use Rattle.scan_signals.specs.Truth.{plain}
use Rattle.scan_signals.specs.Blocks.{step, q_of, new_block}
use Rattle.diagram_program.specs.declared.gates.Action.{Action}
use Rattle.scan_cycle.specs.Cells.{Diagram, Frame}
use Rattle.scan_cycle.specs.Gating.{among}
use Rattle.scan_cycle.specs.Rung.{Held, frame_of, second, link_at, changed}
use Rattle.scan_cycle.specs.Scan.{next_rung}

-- ---- rest

-- At this moment a cell, with left link x and second input y, changes nothing; `start` is what contacts saw.
abbrev pub Stays : Diagram → ℕ → Frame Bool → Held → Cell → Bool → Bool → Type 0
Stays d now start h (Block inst) x y =
    let stored = slice_index_or h.kept.blocks inst (new_block Ton) in
    step (d.kind inst) (d.preset inst) stored x y now ≡ stored
Stays d now start h other x y = changed d now start other x y h ≡ h

-- Rung j rests at a moment: from some moment on, not after this one, none of its cells changes anything, and `after` is the rung after it.
pub record Rests (d : Diagram) (moment : ℕ) (h : Held) (j after : ℕ) : Type 0 where
  pub since : ℕ
  pub begun : since ≤ moment
  pub still : (now e : ℕ) → since ≤ now → Stays d now (frame_of h) h (d.cell j e) (link_at d since j h e) (second plain d j (link_at d since j h) e)
  pub next : next_rung d since j h ≡ after

-- What an instance stores changes at no later moment, where its step leaves it as it is: it is no timer that runs, save an on-delay that is over.
abbrev pub is_on_delay : BlockKind → Bool
is_on_delay Ton = true
is_on_delay other = false

abbrev pub is_settled : BlockKind → Stored → Bool
is_settled kind (Timer last running start q) = not running || (is_on_delay kind && q)
is_settled kind other = true

-- ---- what a rung uses

abbrev pub operand_uses_variable : ℕ → Operand → Bool
operand_uses_variable v (Var var) = var == v
operand_uses_variable v (Output inst) = false

abbrev pub operand_uses_output : ℕ → Operand → Bool
operand_uses_output i (Var var) = false
operand_uses_output i (Output inst) = inst == i

-- A contact reads its operand, and a coil its variable, which it writes.
abbrev pub uses_variable : ℕ → Cell → Bool
uses_variable v (Contact mode operand memory) = operand_uses_variable v operand
uses_variable v (Coil mode var memory) = var == v
uses_variable v other = false

abbrev pub uses_output : ℕ → Cell → Bool
uses_output i (Contact mode operand memory) = operand_uses_output i operand
uses_output i other = false

-- ---- what is remembered

-- For each variable, and for each instance's output, a mark for each rung that uses it; and for each rung that is known to rest the rung
-- after it.
pub record UsedBy : Type 0 where
  pub variables : List (List Bool)
  pub outputs : List (List Bool)

pub record Memory : Type 0 where
  pub users : UsedBy
  pub next : List (Option ℕ)

-- Whether a rung is marked. What has no mark of its own counts as marked.
abbrev pub marked : List (List Bool) → ℕ → ℕ → Bool
marked rows i j = slice_index_or (slice_index_or rows i []) j true

-- All that a rung uses is marked.
pub record AreUsers (d : Diagram) (u : UsedBy) : Type 0 where
  pub variables : (v j e : ℕ) → j < d.rungs → uses_variable v (d.cell j e) ≡ true → marked u.variables v j ≡ true
  pub outputs : (i j e : ℕ) → j < d.rungs → uses_output i (d.cell j e) ≡ true → marked u.outputs i j ≡ true

-- All that a cell of rung j uses is marked.
pub record HasCell (u : UsedBy) (j : ℕ) (c : Cell) : Type 0 where
  pub variables : (v : ℕ) → uses_variable v c ≡ true → marked u.variables v j ≡ true
  pub outputs : (i : ℕ) → uses_output i c ≡ true → marked u.outputs i j ≡ true

-- What was marked still is.
pub record IsMore (old new : UsedBy) : Type 0 where
  pub variables : (i j : ℕ) → marked old.variables i j ≡ true → marked new.variables i j ≡ true
  pub outputs : (i j : ℕ) → marked old.outputs i j ≡ true → marked new.outputs i j ≡ true

-- The rung after rung j, where it is known to rest.
abbrev pub known_next : List (Option ℕ) → ℕ → Option ℕ
known_next next j = slice_index_or next j None

-- Only rungs that were known to rest are so, and none that is marked for this number.
abbrev pub IsWoken : List (List Bool) → ℕ → List (Option ℕ) → List (Option ℕ) → Type 0
IsWoken rows i old new = (j n : ℕ) → known_next new j ≡ Some n → (known_next old j ≡ Some n) × (marked rows i j ≡ false)

-- From h to g, nothing has changed that a rung uses, by the marks, which is still known to rest.
pub record AreWoken (u : UsedBy) (h g : Held) (old new : List (Option ℕ)) : Type 0 where
  pub known : (j n : ℕ) → known_next new j ≡ Some n → known_next old j ≡ Some n
  pub variables : (j n v : ℕ) → known_next new j ≡ Some n → marked u.variables v j ≡ true → slice_index_or g.values v false ≡ slice_index_or h.values v false
  pub outputs : (j n i : ℕ) → known_next new j ≡ Some n → marked u.outputs i j ≡ true
      → slice_index_or (map q_of g.kept.blocks) i false ≡ slice_index_or (map q_of h.kept.blocks) i false

-- From now on an action leaves all as it is.
abbrev pub IsStill : Diagram → ℕ → Frame Bool → List Bool → Held → Action → Type 0
IsStill d now start links h a =
    (later : ℕ) → now ≤ later → Stays d later start h a.cell (among plain links a.left) (among plain links a.below)

-- Each rung that is known to rest does.
pub record AllRest (d : Diagram) (moment : ℕ) (h : Held) (next : List (Option ℕ)) : Type 0 where
  pub within : (j n : ℕ) → known_next next j ≡ Some n → j < d.rungs
  pub rests : (j n : ℕ) → known_next next j ≡ Some n → Rests d moment h j n

-- What is remembered is true of the program, where this is stored at the moment.
pub record IsTrueOf (d : Diagram) (moment : ℕ) (h : Held) (m : Memory) : Type 0 where
  pub users : AreUsers d m.users
  pub all_rest : AllRest d moment h m.next
