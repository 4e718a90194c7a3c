-- Private: what a rung changes, cell after cell of those that write.
use Rattle.std.specs.Prelude.{ℕ, Bool, List, [], ◌∷◌}
use Rattle.diagram_program.specs.declared.gates.Action.{Action}
use Rattle.diagram_program.specs.Program.{Drawing}
use Rattle.scan_signals.specs.Truth.{plain}
use Rattle.scan_cycle.specs.Cells.{Frame}
use Rattle.scan_cycle.specs.Rung.{Held, changed, frame_of, link_at, second}
use Rattle.scan_cycle.specs.Programs.{diagram_of}

-- What these cells leave, in a rung that began with the frame and has these left links.
unfoldable pub acted : Drawing → (now rung : ℕ) → Frame Bool → (ℕ → Bool) → List Action → Held → Held
acted d now rung start links [] h = h
acted d now rung start links (a ∷ more) h =
    acted d now rung start links more (changed (diagram_of d) now start a.cell (links a.place) (second plain (diagram_of d) rung links a.place) h)

-- the same from the state at the start of the rung
abbrev pub acted_from : Drawing → (now rung : ℕ) → Held → List Action → Held → Held
acted_from d now rung g actions h = acted d now rung (frame_of g) (link_at (diagram_of d) now rung g) actions h
