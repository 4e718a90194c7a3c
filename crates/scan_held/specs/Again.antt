-- When what is known comes again, up to the passage of time; and what scans from then on tell.
use Rattle.std.specs.Prelude.{◌≡◌, ◌<◌, ◌≤◌, ◌⊎◌, ℕ, ◌+◌, ◌-◌, ◌*◌, true, false, List, None}
use Rattle.scan_signals.specs.declared.block.Stored.{Stored}
use Rattle.scan_signals.specs.declared.block.Stored.TheVariants.{Timer, Counter, Bistable}
use Rattle.scan_cycle.specs.Cells.{Diagram}
use Rattle.scan_cycle.specs.Rung.{Held}
use Rattle.scan_symbolic.specs.KnownLaws.{BothAt}
use Rattle.scan_symbolic.specs.KnownScan.{Known, after_known}
use Rattle.scan_held.specs.Holding.{moment_of}
use Rattle.scan_held.specs.declared.scans.Scans.{Scans}
use Rattle.scan_signals.specs.Three.{three}
use Rattle.scan_signals.specs.declared.tri.Tri.{Tri}
use Rattle.scan_held.specs.Partly.{partly}
use Rattle.scan_held.specs.SeveralLaws.{first_open, partly_after}
use Rattle.scan_held.specs.declared.partly.Partly.{Partly}
use Rattle.scan_held.specs.declared.partly.Partly.TheVariants.{Exactly}

-- Two starts: the second is later by `shift`; or the first is before `moment` and the second before `moment + shift`, and by then the preset
-- has passed in both. So the starts of a timer are paired one to one with those that follow, as an open choice needs, which compares them.
abbrev pub StartAlike : ℕ → ℕ → ℕ → ℕ → ℕ → Type 0
StartAlike preset moment shift s t =
    (t ≡ s + shift) ⊎ ((s < moment) × (t < moment + shift) × (s + preset ≤ moment) × (t + preset ≤ moment + shift))

-- The same is stored, but for the starts of timers that run, which R relates.
abbrev pub StoredAlike : (ℕ → ℕ → Type 0) → Stored → Stored → Type 0
StoredAlike R (Timer last running start q) (Timer last2 running2 start2 q2) =
    (last2 ≡ last) × (running2 ≡ running) × (q2 ≡ q) × (running ≡ true → R start start2) × (running ≡ false → start2 ≡ start)
StoredAlike R (Counter last cv q) (Counter last2 cv2 q2) = (last2 ≡ last) × (cv2 ≡ cv) × (q2 ≡ q)
StoredAlike R (Bistable q) (Bistable q2) = q2 ≡ q
StoredAlike R s t = ⊥

-- The same is known, but for such starts where it is known what is stored.
abbrev pub PartlyAlike : (ℕ → ℕ → Type 0) → Partly → Partly → Type 0
PartlyAlike R (Exactly s) (Exactly t) = StoredAlike R s t
PartlyAlike R x y = y ≡ x

-- The same is known of two states, but for a time by which the second is later, so far as scans from `moment` on can tell.
pub record IsLaterKnown (d : Diagram) (moment shift : ℕ) (k l : Known Tri Partly) : Type 0 where
  pub values : k.values ≡ l.values
  pub memories : k.memories ≡ l.memories
  pub blocks : BothAt (λ inst. PartlyAlike (StartAlike (d.preset inst) moment shift)) k.blocks l.blocks

-- What comes again goes on as before: scans with the same inputs, the second later by that time, leave what is alike.
abbrev pub KnownGoesOnAlike : Diagram → Type 0
KnownGoesOnAlike d = (moment shift now : ℕ) → moment ≤ now → (xs : List Tri) (k l : Known Tri Partly) → IsLaterKnown d moment shift k l
    → IsLaterKnown d moment shift (after_known three partly d now xs k) (after_known three partly d (now + shift) xs l)

-- After m scans that is known which after i scans was, but for the time between, and until then the variable was known to be OFF. Then it
-- is after each scan, however many there are.
abbrev pub KnownRepeatsStayOff : Diagram → Type 0
KnownRepeatsStayOff d = (h : Held) (first : ℕ) (s : Scans) (xs : List Tri) (coil i m count : ℕ) → 0 < i → i < m
    → IsLaterKnown d (moment_of first s (i - 1)) (s.every * (m - i)) (partly_after d (moment_of first s) xs i h) (partly_after d (moment_of first s) xs m h)
    → first_open d (moment_of first s) xs h coil m ≡ None → first_open d (moment_of first s) xs h coil count ≡ None
