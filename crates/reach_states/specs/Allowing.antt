-- Which states what is known without moments allows.
use Rattle.std.specs.Prelude.{◌≡◌, ◌<◌, ◌≤◌, ℕ, ◌+◌, ◌-◌, ◌&&◌, if◌then◌else◌, min, nat_le, nat_lt, pos, Bool, true, false, List}
use Rattle.diagram_declarations.specs.declared.kind.BlockKind.{BlockKind}
use Rattle.scan_signals.specs.declared.block.Stored.{Stored}
use Rattle.scan_signals.specs.declared.block.Stored.TheVariants as stored
use Rattle.scan_signals.specs.Blocks.{q_of, new_block}
use Rattle.scan_signals.specs.Relations.{Both}
use Rattle.scan_signals.specs.Three.{three, three_allows}
use Rattle.scan_signals.specs.Truth.{plain}
use Rattle.scan_signals.specs.declared.tri.Tri.{Tri}
use Rattle.scan_cycle.specs.Cells.{Diagram}
use Rattle.scan_cycle.specs.Rung.{Held}
use Rattle.scan_cycle.specs.RungByRung.{shape}
use Rattle.scan_cycle.specs.Scan.{after_scan}
use Rattle.scan_symbolic.specs.KnownScan.{Known, after_known, all_known, plainly}
use Rattle.scan_symbolic.specs.KnownLaws.{BothKnown}
use Rattle.invariant_cases.specs.Allowing.{Allows}
use Rattle.reach_runs.specs.declared.timing.Timing.{Timing}
use Rattle.reach_runs.specs.declared.timing.Timing.TheVariants.{AnyMoments, Every}
use Rattle.reach_states.specs.Untimed.{capped, untimed}
use Rattle.reach_states.specs.declared.untimed.Untimed.{Untimed}
use Rattle.reach_states.specs.declared.untimed.Untimed.TheVariants.{Timer, Counter, Output, Anything}

-- A timer that began at a moment has run for this time, for a scan at the moment `now`: at any moments it counts whether its preset has passed;
-- in a rhythm the time is exact, up to the preset.
abbrev pub HasRun : Timing → ℕ → ℕ → ℕ → ℕ → Type 0
HasRun AnyMoments now preset elapsed start = nat_le preset elapsed ≡ nat_le preset (now - start)
HasRun (Every every) now preset elapsed start = (start ≤ now) × (elapsed ≡ min (now - start) preset)

-- What an instance of a kind and a preset may store where this is known, where R says of a time and a start whether a timer may have run so.
abbrev pub MayBe : (ℕ → ℕ → Type 0) → BlockKind → ℕ → Untimed → Stored → Type 0
MayBe R kind preset (Timer last running elapsed q) (stored.Timer last2 running2 start q2) =
    (new_block kind ≡ stored.Timer false false 0 false) × (last2 ≡ last) × (running2 ≡ running) × (q2 ≡ q) × (running ≡ true → R elapsed start)
MayBe R kind preset (Counter last cv q) (stored.Counter last2 cv2 q2) =
    (new_block kind ≡ stored.Counter false (pos 0) false) × (last2 ≡ last) × (capped kind preset cv2 ≡ cv) × (q2 ≡ q)
MayBe R kind preset (Output q) s = (shape s ≡ new_block kind) × three_allows q 0 (q_of s)
MayBe R kind preset Anything s = Unit {0}
MayBe R kind preset b s = ⊥

-- The state may be this one, where R says so of each instance, by its number and its preset.
abbrev pub AllowsBy : (ℕ → ℕ → ℕ → ℕ → Type 0) → Diagram → Known Tri Untimed → Held → Type 0
AllowsBy R d k h = BothKnown Allows (λ inst. MayBe (R inst (d.preset inst)) (d.kind inst) (d.preset inst)) k (all_known plain plainly h)

-- The state may be this one, where a scan of it is made at the moment.
abbrev pub AllowsState : Timing → Diagram → ℕ → Known Tri Untimed → Held → Type 0
AllowsState timing d now = AllowsBy (λ inst. HasRun timing now) d

-- After a scan at this moment, with inputs that are known in part, what is known allows what the scan leaves for each completion of the inputs.
abbrev pub ScanAllows : Diagram → Type 0
ScanAllows d = (timing : Timing) (now : ℕ) (known : List Tri) (inputs : List Bool) → Both Allows known inputs
    → (k : Known Tri Untimed) (h : Held) → AllowsState timing d now k h
    → AllowsState timing d now (after_known three untimed d 0 known k) (after_scan d now inputs h)

-- ---- time passes

-- A time that has passed stays so.
abbrev pub MayHaveRun : ℕ → ℕ → ℕ → ℕ → Type 0
MayHaveRun now preset elapsed start = nat_le preset elapsed ≡ true → nat_le preset (now - start) ≡ true

-- The same where of the instances from a number on it is open whether a time has passed that hadn't.
abbrev pub OpenFrom : ℕ → ℕ → ℕ → ℕ → ℕ → ℕ → Type 0
OpenFrom first now inst preset elapsed start = MayHaveRun now preset elapsed start × (inst < first → HasRun AnyMoments now preset elapsed start)

abbrev pub AllowsFrom : ℕ → Diagram → ℕ → Known Tri Untimed → Held → Type 0
AllowsFrom first d now = AllowsBy (OpenFrom first now) d

-- At any later moment it is open of all timers that run whether their times have passed.
abbrev pub TimePasses : Diagram → Type 0
TimePasses d = (now later : ℕ) → now ≤ later → (k : Known Tri Untimed) (h : Held) → AllowsState AnyMoments d now k h → AllowsFrom 0 d later k h

-- A timer runs whose time hasn't passed.
abbrev pub is_waiting : ℕ → Untimed → Bool
is_waiting preset (Timer last running elapsed q) = running && nat_lt elapsed preset
is_waiting preset other = false

-- The same with its time passed, and after so long a time.
abbrev pub over : ℕ → Untimed → Untimed
over preset (Timer last running elapsed q) = Timer last running preset q
over preset other = other

abbrev pub aged : ℕ → ℕ → Untimed → Untimed
aged every preset (Timer last running elapsed q) = Timer last running (if running then min (elapsed + every) preset else 0) q
aged every preset other = other
