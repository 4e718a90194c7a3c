-- A state that fits a program fits it after a scan.
use Rattle.std.proofs.Common.{◌≡◌, ◌∙◌, ℕ, Bool, List, ap, length, map, refl, sym}
use Rattle.diagram_declarations.specs.Decls.{is_input}
use Rattle.diagram_program.specs.Program.{Drawing}
use Rattle.scan_cycle.specs.Programs.{diagram_of, IsSound}
use Rattle.scan_cycle.specs.Rung.{Held, SameLengths}
use Rattle.scan_cycle.specs.RungByRung.{scanned}
use Rattle.scan_cycle.specs.Scan.{after_scan, given}
use Rattle.scan_cycle.specs.Standing.{Fits, Standing}
use Rattle.scan_cycle.proofs.Scanned.{by_rungs}
use Rattle.scan_cycle.proofs.Sizes.{scan_lengths}
use Rattle.text_drawing.specs.Showing.{OneScan, state_after}

same_lengths : (p : Drawing) → IsSound (diagram_of p) → (now : ℕ) (inputs : List Bool) (h : Held) → SameLengths (after_scan (diagram_of p) now inputs h) h
same_lengths p sound now inputs h =
    let begun = record h { values = given (map is_input p.decls.vars) inputs h.values } in
    let left = (scanned (diagram_of p) now begun p.rungs).held in
    scan_lengths (diagram_of p) now (map is_input p.decls.vars) inputs h begun (after_scan (diagram_of p) now inputs h) p.rungs refl
    (sym (by_rungs p sound now inputs h begun left refl refl))

pub fits_after : (s : OneScan) → IsSound (diagram_of s.program) → Fits s.program s.state → (left : Standing) → left ≡ state_after s → Fits s.program left
fits_after s sound fits left e =
    let lengths = same_lengths s.program sound s.now s.inputs s.state.held in
    record {
      values = ap (λ (x : Standing). length x.held.values) e ∙ lengths.values ∙ fits.values;
      memories = ap (λ (x : Standing). length x.held.kept.memories) e ∙ lengths.memories ∙ fits.memories;
      kinds = ap (λ (x : Standing). x.kinds) e ∙ fits.kinds;
    }
