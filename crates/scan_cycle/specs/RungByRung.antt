-- Private: the scan as the code does it, through all rungs, where `resume` is the next rung to be evaluated.
use Rattle.std.specs.Prelude.{◌≡◌, ◌≤◌, ◌+◌, ℕ, Bool, Option, Some, None, false, List, FitsSigned, if◌then◌else◌, nat_lt, pos, slice_index_or, zero, suc}
use Rattle.std.specs.Int.{w16}
use Rattle.diagram_declarations.specs.declared.kind.BlockKind.TheVariants.{Ton}
use Rattle.scan_signals.specs.declared.block.Stored.{Stored}
use Rattle.scan_signals.specs.declared.block.Stored.TheVariants.{Timer, Counter, Bistable}
use Rattle.scan_signals.specs.Blocks.{new_block}
use Rattle.scan_cycle.specs.Cells.{Diagram}
use Rattle.scan_cycle.specs.Rung.{Held, evaluated}
use Rattle.scan_cycle.specs.Scan.{next_rung}

pub record Scanned : Type 0 where
  pub held : Held
  pub resume : ℕ

abbrev pub scanned_more : Diagram → ℕ → ℕ → Scanned → Scanned
scanned_more d now j s = if nat_lt j s.resume then s else record { held = evaluated d now j s.held; resume = next_rung d now j s.held }

unfoldable pub scanned : Diagram → ℕ → Held → ℕ → Scanned
scanned d now h zero = record { held = h; resume = 0 }
scanned d now h (suc j) = scanned_more d now j (scanned d now h j)

-- What is stored with all that steps change at its beginning.
abbrev pub shape : Stored → Stored
shape (Timer last running start q) = Timer false false 0 false
shape (Counter last cv q) = Counter false (pos 0) false
shape (Bistable q) = Bistable false

-- What can be stored at a moment, by an instance of some kind.
abbrev pub IsPossible : ℕ → Stored → Type 0
IsPossible moment (Timer last running start q) = (start ≤ moment) × (running ≡ false → start ≡ 0)
IsPossible moment (Counter last cv q) = FitsSigned w16 cv
IsPossible moment (Bistable q) = Unit {0}

-- Each instance stores what can be stored at the moment.
abbrev pub ArePossible : ℕ → List Stored → Type 0
ArePossible moment blocks = (i : ℕ) → IsPossible moment (slice_index_or blocks i (new_block Ton))

-- The rung after rung j, by its jump and its left links: the target of the jump, where the jump's left link is ON, and otherwise
-- the rung below.
abbrev pub rung_after : ℕ → Option (ℕ × ℕ) → (ℕ → Bool) → ℕ
rung_after j jump links = elim jump [ Some (place, target) ↦ if links place then target else j + 1 | None ↦ j + 1 ]
