-- Private: what wires connect to the left rail, and which rungs a scan reaches, while they are found out.
use Rattle.std.specs.Prelude.{◌↔◌, ◌<◌, ℕ, List, Bool, false, IsTrue, slice_index_or}
use Rattle.diagram_program.specs.declared.geometry.TheConstants.{ROWS}
use Rattle.diagram_program.specs.Program.{Drawing}
use Rattle.text_warnings.specs.Ways.{Follows, IsReached, IsWired, IsWiredBy}

-- for each row of a column, whether wires connect the left end of its cell to the left rail
abbrev pub AreWired : Drawing → ℕ → ℕ → List Bool → Type 0
AreWired d rung column wired = (row : ℕ) → row < ROWS → IsTrue (slice_index_or wired row false) ↔ IsWired d rung column row

-- the row `from` of a column connects the row of the next one to the left rail
abbrev pub WiresFrom : Drawing → ℕ → ℕ → ℕ → ℕ → Type 0
WiresFrom d rung row column from = IsWiredBy d rung row from column (IsWired d rung column from)

-- for each of the first n rungs, whether a scan reaches it
abbrev pub AreReached : Drawing → ℕ → List Bool → Type 0
AreReached d n reached = (rung : ℕ) → rung < n → IsTrue (slice_index_or reached rung false) ↔ IsReached d rung

-- a scan reaches the rung `before`, and can go on from it to this one
abbrev pub ComesFrom : Drawing → ℕ → ℕ → Type 0
ComesFrom d rung before = IsReached d before × Follows d before rung
