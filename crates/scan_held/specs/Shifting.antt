-- What is stored, up to the passage of time.
use Rattle.std.specs.Prelude.{◌≡◌, ◌≤◌, ◌⊎◌, ℕ, ◌+◌, true}
use Rattle.scan_signals.specs.declared.block.Stored.{Stored}
use Rattle.scan_signals.specs.declared.block.Stored.TheVariants.{Timer, Counter, Bistable}

-- Two starts, of which the second is later by `shift`; or both so long ago that the preset has passed, at `moment` and that much later.
abbrev pub RunAlike : ℕ → ℕ → ℕ → ℕ → ℕ → Type 0
RunAlike preset moment shift s t = (t ≡ s + shift) ⊎ ((s + preset ≤ moment) × (t + preset ≤ moment + shift))

-- The same is stored, but for the starts of timers that run.
abbrev pub IsLater : ℕ → ℕ → ℕ → Stored → Stored → Type 0
IsLater preset moment shift (Timer last running start q) (Timer last2 running2 start2 q2) =
    (last2 ≡ last) × (running2 ≡ running) × (q2 ≡ q) × (running ≡ true → RunAlike preset moment shift start start2)
IsLater preset moment shift (Counter last cv q) (Counter last2 cv2 q2) = (last2 ≡ last) × (cv2 ≡ cv) × (q2 ≡ q)
IsLater preset moment shift (Bistable q) (Bistable q2) = q2 ≡ q
IsLater preset moment shift s t = ⊥
