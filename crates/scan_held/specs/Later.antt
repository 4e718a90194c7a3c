-- A state that has come again, later.
use Rattle.std.specs.Prelude.{◌≡◌, ◌≤◌, ◌+◌, ℕ, Bool, List}
use Rattle.scan_signals.specs.declared.block.Stored.{Stored}
use Rattle.scan_cycle.specs.Cells.{Diagram}
use Rattle.scan_cycle.specs.Rung.{Held}
use Rattle.scan_cycle.specs.Scan.{after_scan}
use Rattle.scan_symbolic.specs.KnownLaws.{BothAt}
use Rattle.scan_held.specs.Shifting.{IsLater}

-- Each instance stores the same in both, but for the time by which the second is later.
abbrev pub AreLater : Diagram → ℕ → ℕ → List Stored → List Stored → Type 0
AreLater d moment shift = BothAt (λ inst. IsLater (d.preset inst) moment shift)

-- Two states are alike but for a time by which the second is later, so far as scans from `moment` on can tell.
pub record IsLaterState (d : Diagram) (moment shift : ℕ) (h g : Held) : Type 0 where
  pub values : h.values ≡ g.values
  pub memories : h.kept.memories ≡ g.kept.memories
  pub blocks : AreLater d moment shift h.kept.blocks g.kept.blocks

-- A state that comes again goes on as before: scans with the same inputs, the second later by that time, leave states that are alike.
abbrev pub GoesOnAlike : Diagram → Type 0
GoesOnAlike d = (moment shift now : ℕ) → moment ≤ now → (inputs : List Bool) (h g : Held) → IsLaterState d moment shift h g
    → IsLaterState d moment shift (after_scan d now inputs h) (after_scan d (now + shift) inputs g)
