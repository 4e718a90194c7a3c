-- What the marks of a scan say of a drawing. Rungs, rows, columns and places are counted from 0.
use Rattle.std.specs.Prelude.{◌≡◌, ◌<◌, ℕ, ◌+◌, Bool, true, false, not, Option, List, length}
use Rattle.diagram_program.specs.declared.geometry.TheConstants.{COLUMNS, PLACES, ROWS}
use Rattle.diagram_program.specs.declared.mode.CoilMode.{CoilMode}
use Rattle.diagram_program.specs.declared.mode.CoilMode.TheVariants as coil
use Rattle.diagram_program.specs.declared.cell.Cell.TheVariants.{Coil}
use Rattle.diagram_program.specs.Program.{Drawing, cell_of, is_coil_of, site_at}
use Rattle.scan_cycle.specs.declared.seen.Mark.{Mark}
use Rattle.scan_cycle.specs.Programs.{diagram_of}
use Rattle.scan_cycle.specs.Rung.{Held}
use Rattle.scan_cycle.specs.Seen.{AreMarks, mark_at}
use Rattle.text_power.specs.Show.{mark_in}

-- ---- vertical links

-- Both ends of a vertical link have the same power in each scan: what is on its right in its upper row has power at its left exactly where
-- what is on its right in its lower row has.
abbrev pub LinkedEndsAgree : Drawing → Type 0
LinkedEndsAgree p =
    (now : ℕ) (inputs : List Bool) (h : Held) (marks : List Mark) → AreMarks (diagram_of p) now inputs h marks
    → (rung row column : ℕ) → rung < p.rungs → row + 1 < ROWS → column < COLUMNS → (site_at p rung row column).vertical ≡ true
    → (mark_in marks rung row column).left ≡ (mark_in marks rung (row + 1) column).left

-- ---- coils

-- A coil obeys its wire: after the rung the variable of `( )` is ON exactly where the wire is live, and that of `(/)` exactly where it is dead.
-- At a live wire that of `(S)` is ON, and those of `(R)` and `(N)` are OFF; at a dead one that of `(P)` is OFF.
abbrev pub Obeys : CoilMode → Mark → Type 0
Obeys coil.Store m = m.on ≡ m.left
Obeys coil.Inverse m = m.on ≡ not m.left
Obeys coil.Set m = m.left ≡ true → m.on ≡ true
Obeys coil.Reset m = m.left ≡ true → m.on ≡ false
Obeys coil.Rising m = m.left ≡ false → m.on ≡ false
Obeys coil.Falling m = m.left ≡ true → m.on ≡ false

-- No other place of the rung has a coil of the variable.
abbrev pub IsAlone : Drawing → ℕ → ℕ → ℕ → Type 0
IsAlone p rung place var = (other : ℕ) → other < PLACES → (other ≡ place → ⊥) → is_coil_of var (cell_of p rung other) ≡ false

-- In each rung that a scan evaluates, a coil that is alone on its variable there obeys its wire. The scan begins with a value for each
-- variable.
abbrev pub LoneCoilsObey : Drawing → Type 0
LoneCoilsObey p =
    (now : ℕ) (inputs : List Bool) (h : Held) (marks : List Mark) → length h.values ≡ length p.decls.vars
    → AreMarks (diagram_of p) now inputs h marks
    → (rung place var : ℕ) (mode : CoilMode) (memory : Option ℕ) → rung < p.rungs → place < PLACES
    → cell_of p rung place ≡ Coil mode var memory → IsAlone p rung place var
    → (mark_at marks rung place).evaluated ≡ true → Obeys mode (mark_at marks rung place)
