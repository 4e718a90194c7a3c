-- Several scans with inputs that are known in part, and what is known after each.
use Rattle.std.specs.Prelude.{◌≡◌, ℕ, Bool, true, false, List, find, Option, Some, None, slice_index_or, zero, suc}
use Rattle.std.specs.List.{range_with_len}
use Rattle.scan_signals.specs.Algebra.{Algebra}
use Rattle.scan_signals.specs.Relations.{AllowsAt, Both}
use Rattle.scan_signals.specs.Truth.{OnePlace}
use Rattle.scan_cycle.specs.Cells.{Diagram}
use Rattle.scan_cycle.specs.Rung.{Held}
use Rattle.scan_symbolic.specs.KnownScan.{Keeping, Known, after_known, all_known}
use Rattle.scan_signals.specs.Three.{AnyTri, three, three_allows}
use Rattle.scan_signals.specs.declared.tri.Tri.{Tri}
use Rattle.scan_signals.specs.declared.tri.Tri.TheVariants.{Off, On, Unsure}
use Rattle.scan_held.specs.Holding.{after_scans, first_on}
use Rattle.scan_held.specs.Partly.{partly}
use Rattle.scan_held.specs.declared.partly.Partly.{Partly}

-- What is known after n scans, each given the same inputs; `moment` is that of each, by its number from 0.
unfoldable pub after_all_known : {S B : Type 0} → Algebra S → Keeping S B → Diagram → (ℕ → ℕ) → List S → ℕ → Known S B → Known S B
after_all_known o w d moment inputs zero k = k
after_all_known o w d moment inputs (suc n) k = after_known o w d (moment n) inputs (after_all_known o w d moment inputs n k)

-- Over three values, from a state that is known.
abbrev pub partly_after : Diagram → (ℕ → ℕ) → List Tri → ℕ → Held → Known Tri Partly
partly_after d moment xs n h = after_all_known three partly d moment xs n (all_known three partly h)

-- Truth values that are allowed, each by its own of three.
abbrev pub AreAllowed : List Tri → List Bool → Type 0
AreAllowed = Both (AllowsAt AnyTri OnePlace three_allows 0)

-- The variable after the n-th scan, counted from 1.
abbrev pub known_after : Diagram → (ℕ → ℕ) → List Tri → Held → ℕ → ℕ → Tri
known_after d moment xs h coil n = slice_index_or (partly_after d moment xs n h).values coil Off

abbrev pub is_not_off : Tri → Bool
is_not_off Off = false
is_not_off On = true
is_not_off Unsure = true

-- The first of so many scans, counted from 1, after which it is not known to be OFF.
abbrev pub first_open : Diagram → (ℕ → ℕ) → List Tri → Held → ℕ → ℕ → Option ℕ
first_open d moment xs h coil count = find (λ n. is_not_off (known_after d moment xs h coil n)) (range_with_len 1 count)

-- Where the variable is known to be OFF after each of the scans, no scan switches it on; and where it is known to be ON after the first
-- scan that leaves it anything else, this is the first scan that does.
pub record Tells (d : Diagram) (moment : ℕ → ℕ) (xs : List Tri) (vs : List Bool) (h : Held) (coil count : ℕ) : Type 0 where
  pub none : first_open d moment xs h coil count ≡ None → first_on d moment vs h coil count ≡ None
  pub some : (n : ℕ) → first_open d moment xs h coil count ≡ Some n → known_after d moment xs h coil n ≡ On
      → first_on d moment vs h coil count ≡ Some n

-- For inputs that are allowed: what is known after each scan allows the values that the scans leave, and tells the first scan after which
-- a variable is ON.
pub record AllowsScans (d : Diagram) : Type 0 where
  pub allows : (h : Held) (moment : ℕ → ℕ) (xs : List Tri) (vs : List Bool) → AreAllowed xs vs → (n : ℕ)
      → AreAllowed (partly_after d moment xs n h).values (after_scans d moment vs n h).values
  pub tells : (h : Held) (moment : ℕ → ℕ) (xs : List Tri) (vs : List Bool) (coil count : ℕ) → AreAllowed xs vs
      → Tells d moment xs vs h coil count
