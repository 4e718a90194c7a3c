-- Private: from where power gets to a cell that uses it, while it is found out column by column.
use Rattle.std.specs.Prelude.{◌↔◌, ◌+◌, ◌-◌, ◌<◌, ℕ, List, Bool, false, IsTrue, slice_index_or}
use Rattle.diagram_program.specs.declared.geometry.TheConstants.{COLUMNS, ROWS}
use Rattle.diagram_program.specs.Program.{Drawing}
use Rattle.text_warnings.specs.Routes.{HasRoute, LeadsThrough}

-- for each row, whether a route goes from the right end of a cell in it, with n columns on its right
abbrev pub AreLeading : Drawing → ℕ → ℕ → List Bool → Type 0
AreLeading d rung n leading = (row : ℕ) → row < ROWS → IsTrue (slice_index_or leading row false) ↔ HasRoute d rung row (COLUMNS - (n + 1))

-- a route from the right end of a cell in the row `from` begins in this row, with n columns behind
abbrev pub RouteBegins : Drawing → ℕ → ℕ → ℕ → ℕ → Type 0
RouteBegins d rung from n row = LeadsThrough d rung from row (COLUMNS - (n + 1)) (HasRoute d rung row (COLUMNS - (n + 1)))
