-- Which rungs a scan can reach, as the ways to them.
use Rattle.std.specs.Prelude.{◌≡◌, ◌⊎◌, ◌+◌, ◌<◌, ℕ, zero, suc, List, [], ◌∷◌, true, ⊤, IsSomeAnd}
use Rattle.diagram_program.specs.declared.geometry.TheConstants.{ROWS}
use Rattle.diagram_program.specs.declared.cell.Cell.TheVariants as cell
use Rattle.diagram_program.specs.Program.{Drawing, feeds, jump_of, site_at}
use Rattle.text_warnings.specs.Below.{SomeBelow}

-- A wire at a row and column feeds the row of the next column, and of its own left end this holds.
unfoldable pub IsWiredBy : Drawing → ℕ → ℕ → ℕ → ℕ → Type 0 → Type 0
IsWiredBy d rung row from column Wired = (feeds d rung row (column + 1) from ≡ true) × ((site_at d rung from column).cell ≡ cell.Wire) × Wired

-- The left end of the cell at a column and row is connected to the left rail by wires alone.
unfoldable pub IsWired : Drawing → ℕ → ℕ → ℕ → Type 0
IsWired d rung zero row = ⊤
IsWired d rung (suc column) row = SomeBelow ROWS (λ from. IsWiredBy d rung row from column (IsWired d rung column from))

-- The jump or return of the rung is always taken: wires alone connect it to the left rail.
abbrev pub AlwaysLeaves : Drawing → ℕ → Type 0
AlwaysLeaves d rung = IsSomeAnd (jump_of d rung) (λ jump. IsWired d rung jump.1 jump.0)

-- the jump or return of a rung goes to this one
abbrev pub JumpsTo : Drawing → ℕ → ℕ → Type 0
JumpsTo d from rung = IsSomeAnd (jump_of d from) (λ jump. jump.2 ≡ rung)

-- A scan can go from a rung to this one: the next one, where it doesn't always leave, or the one that its jump or return goes to.
abbrev pub Follows : Drawing → ℕ → ℕ → Type 0
Follows d before rung = ((rung ≡ before + 1) × (AlwaysLeaves d before → ⊥)) ⊎ JumpsTo d before rung

-- A way of a scan to the rung, from the last rung before it back to the first rung.
unfoldable pub IsWay : Drawing → ℕ → List ℕ → Type 0
IsWay d rung [] = rung ≡ 0
IsWay d rung (before ∷ way) = (before < rung) × Follows d before rung × IsWay d before way

-- a way goes to the rung
abbrev pub IsReached : Drawing → ℕ → Type 0
IsReached d rung = (way : List ℕ) × IsWay d rung way

-- The first place of a rung that no scan reaches.
abbrev pub IsNeverReached : Drawing → ℕ → ℕ → ℕ → Type 0
IsNeverReached d rung row column = (row ≡ 0) × (column ≡ 0) × (IsReached d rung → ⊥)
