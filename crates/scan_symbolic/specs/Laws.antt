-- Laws over the definitions, each the contract of a function in module `laws`.
use Rattle.std.specs.Prelude.{◌≡◌, ℕ, List, Bool}
use Rattle.scan_signals.specs.Algebra.{Algebra}
use Rattle.scan_signals.specs.Truth.{plain}
use Rattle.scan_signals.specs.Relations.{AllowsAt, Both}
use Rattle.scan_cycle.specs.Cells.{Diagram}
use Rattle.scan_cycle.specs.Rung.{Held}
use Rattle.scan_cycle.specs.Scan.{after_scan}
use Rattle.scan_symbolic.specs.Look.{after_look}

-- A relation that the operations keep is kept by the whole scan: from related inputs come related values.
abbrev pub LookKeeps : {A B : Type 0} → Algebra A → Algebra B → (A → B → Type 0) → Type 0
LookKeeps {A} {B} a b R = (d : Diagram) (h : Held) (now : ℕ) (xs : List A) (vs : List B) → Both R xs vs
    → Both R (after_look a d now xs h) (after_look b d now vs h)

-- Soundness of looks: where each input allows, at a place, the truth value that a scan is given, each value that the look leaves allows,
-- at that place, the value that the scan leaves.
abbrev pub LookAllows : {S : Type 0} → (S → Type 0) → Algebra S → (ℕ → Type 0) → (S → ℕ → Bool → Type 0) → Diagram → Type 0
LookAllows {S} V o P A d = (p : ℕ) (h : Held) (now : ℕ) (xs : List S) (vs : List Bool) → Both (AllowsAt V P A p) xs vs
    → Both (AllowsAt V P A p) (after_look o d now xs h) (after_scan d now vs h).values

-- Over truth values the scan over signals leaves the values of the scan.
abbrev pub LookIsScan : Diagram → Type 0
LookIsScan d = (h : Held) (now : ℕ) (inputs : List Bool) → after_look plain d now inputs h ≡ (after_scan d now inputs h).values
