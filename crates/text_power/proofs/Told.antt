-- A mark of a scan, by the state with which the scan comes to its rung.
use Rattle.std.proofs.Common.{◌≡◌, ◌∙◌, ℕ, ◌<◌, Bool, List, ap, map, refl}
use Rattle.diagram_declarations.specs.Decls.{is_input}
use Rattle.diagram_program.specs.declared.geometry.TheConstants.{PLACES}
use Rattle.diagram_program.specs.Program.{Drawing}
use Rattle.scan_cycle.specs.declared.seen.Mark.{Mark}
use Rattle.scan_cycle.specs.Marking.{mark_of, marks_below}
use Rattle.scan_cycle.specs.Programs.{diagram_of, IsSound}
use Rattle.scan_cycle.specs.Rung.{Held}
use Rattle.scan_cycle.specs.RungByRung.{scanned}
use Rattle.scan_cycle.specs.Scan.{given}
use Rattle.scan_cycle.specs.Seen.{AreMarks, mark_at}
use Rattle.scan_cycle.proofs.Marks.{marks_begun, marks_there, one_sight}

-- a scan begins with the values that are given
abbrev pub begun : Drawing → List Bool → Held → Held
begun p inputs h = record h { values = given (map is_input p.decls.vars) inputs h.values }

-- the marks are those that are made rung by rung
marks_are : (p : Drawing) → IsSound (diagram_of p) → (now : ℕ) (inputs : List Bool) (h : Held) (marks : List Mark) → AreMarks (diagram_of p) now inputs h marks
    → marks ≡ marks_below (diagram_of p) now (begun p inputs h) p.rungs
marks_are p sound now inputs h marks seen =
    let made = marks_below (diagram_of p) now (begun p inputs h) p.rungs in
    one_sight (diagram_of p) sound.forward now inputs h marks made seen (marks_begun p sound now inputs h (begun p inputs h) made refl refl)

pub told : (p : Drawing) → IsSound (diagram_of p) → (now : ℕ) (inputs : List Bool) (h : Held) (marks : List Mark) → AreMarks (diagram_of p) now inputs h marks
    → (j place : ℕ) → j < p.rungs → place < PLACES
    → mark_at marks j place ≡ mark_of (diagram_of p) now j (scanned (diagram_of p) now (begun p inputs h) j) place
told p sound now inputs h marks seen j place below within =
    ap (λ (ms : List Mark). mark_at ms j place) (marks_are p sound now inputs h marks seen)
    ∙ marks_there (diagram_of p) now (begun p inputs h) p.rungs j place _ below within
