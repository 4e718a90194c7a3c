-- Laws over the definitions, each the contract of a function in module `laws`.
use Rattle.std.specs.Prelude.{◌≡◌, ℕ, ◌<◌, List, Bool, Some}
use Rattle.diagram_program.specs.Program.{memory_in, block_in}
use Rattle.scan_cycle.specs.Cells.{Diagram}
use Rattle.scan_cycle.specs.Rung.{Held}
use Rattle.scan_cycle.specs.Scan.{Evaluates, after_scan, given}

-- Each memory, and each instance, belongs to one cell.
pub record Once (d : Diagram) : Type 0 where
  pub memory : (i j e h g : ℕ) → memory_in (d.cell j e) ≡ Some i → memory_in (d.cell h g) ≡ Some i → (j ≡ h) × (e ≡ g)
  pub block : (i j e h g : ℕ) → block_in (d.cell j e) ≡ Some i → block_in (d.cell h g) ≡ Some i → (j ≡ h) × (e ≡ g)

-- Jumps go to later rungs.
abbrev pub Forward : Diagram → Type 0
Forward d = (j place target : ℕ) → d.jump j ≡ Some (place, target) → j < target

-- What a scan leaves is what the evaluation of its rungs leaves: there is a list of rungs that are evaluated, from the first one on,
-- and whatever such a list leaves is the same.
pub record FollowsJumps (d : Diagram) : Type 0 where
  pub found : (h : Held) (now : ℕ) (inputs : List Bool)
      → (js : List ℕ) × Evaluates d now 0 (record { values = given d.inputs inputs h.values; kept = h.kept }) js (after_scan d now inputs h)
  pub alone : (h : Held) (now : ℕ) (inputs : List Bool) (js : List ℕ) (last : Held)
      → Evaluates d now 0 (record { values = given d.inputs inputs h.values; kept = h.kept }) js last → last ≡ after_scan d now inputs h
