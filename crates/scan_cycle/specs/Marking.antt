-- Private: the marks of a scan as the code makes them, rung by rung.
use Rattle.std.specs.Prelude.{ℕ, if◌then◌else◌, List, [], ◌++◌, nat_lt, zero, suc}
use Rattle.diagram_program.specs.AllPlaces.{first_places}
use Rattle.diagram_program.specs.declared.geometry.TheConstants.{PLACES}
use Rattle.scan_cycle.specs.declared.seen.Mark.{Mark}
use Rattle.scan_cycle.specs.Cells.{Diagram}
use Rattle.scan_cycle.specs.Rung.{Held}
use Rattle.scan_cycle.specs.RungByRung.{Scanned, scanned}
use Rattle.scan_cycle.specs.Seen.{mark_in, mark_passed}

-- A place of rung j, to which the scan comes with s.
abbrev pub mark_of : Diagram → ℕ → ℕ → Scanned → ℕ → Mark
mark_of d now j s place =
    if nat_lt j s.resume then mark_passed s.held (d.cell j place)
    else mark_in d now j s.held place

-- The places of the first rungs of a scan that begins with h, by rung, column and row.
unfoldable pub marks_below : Diagram → ℕ → Held → ℕ → List Mark
marks_below d now h zero = []
marks_below d now h (suc j) = marks_below d now h j ++ first_places (mark_of d now j (scanned d now h j)) PLACES
