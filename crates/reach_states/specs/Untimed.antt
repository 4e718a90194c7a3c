-- The keeping of instances over three values without moments: a timer keeps for how long it has run, in place of when it began.
use Rattle.std.specs.Prelude.{ℕ, min, Bool, true, false, not, if◌then◌else◌, ◌&&◌, ◌==◌, ◌-◌, ℤ, pos, int_le}
use Rattle.std.specs.Ordering.{int_eq}
use Rattle.diagram_declarations.specs.declared.kind.BlockKind.{BlockKind}
use Rattle.diagram_declarations.specs.declared.kind.BlockKind.TheVariants.{Ton, Tof, Ctu, Ctd, Sr, Rs}
use Rattle.scan_signals.specs.declared.block.Stored.{Stored}
use Rattle.scan_signals.specs.declared.block.Stored.TheVariants as stored
use Rattle.scan_signals.specs.Blocks.{step}
use Rattle.scan_signals.specs.Three.{three_known, three_join, three_meet, three_choice}
use Rattle.scan_signals.specs.declared.tri.Tri.{Tri}
use Rattle.scan_signals.specs.declared.tri.Tri.TheVariants.{Off, On, Unsure}
use Rattle.scan_symbolic.specs.KnownScan.{Keeping}
use Rattle.reach_states.specs.declared.untimed.Untimed.{Untimed}
use Rattle.reach_states.specs.declared.untimed.Untimed.TheVariants.{Timer, Counter, Output, Anything}

-- CV as far as it matters: a CTU that counts on past its preset does nothing else, nor does a CTD that counts on below 0.
abbrev pub capped : BlockKind → ℕ → ℤ → ℤ
capped Ctu preset cv = if int_le (pos preset) cv then pos preset else cv
capped Ctd preset cv = if int_le cv (pos 0) then pos 0 else cv
capped kind preset cv = cv

-- what is known of the Q
abbrev pub q_untimed : Untimed → Tri
q_untimed (Timer last running elapsed q) = three_known q
q_untimed (Counter last cv q) = three_known q
q_untimed (Output q) = q
q_untimed Anything = Unsure

-- ---- one of two

abbrev pub same_bool : Bool → Bool → Bool
same_bool true b = b
same_bool false b = not b

-- Whether both keep the same of a timer, or of a counter.
abbrev pub same_kept : Untimed → Untimed → Bool
same_kept (Timer last running elapsed q) (Timer last2 running2 elapsed2 q2) =
    same_bool last last2 && (same_bool running running2 && (elapsed == elapsed2 && same_bool q q2))
same_kept (Counter last cv q) (Counter last2 cv2 q2) = same_bool last last2 && (int_eq cv cv2 && same_bool q q2)
same_kept x y = false

-- What their Qs agree on, of an instance of its kind.
abbrev pub agreed : Untimed → Untimed → Untimed
agreed Anything y = Anything
agreed x Anything = Anything
agreed x y = Output (three_choice Unsure (q_untimed x) (q_untimed y))

-- What is known where it is one of two, and open which.
abbrev pub merged : Untimed → Untimed → Untimed
merged x y = if same_kept x y then x else agreed x y

abbrev pub choice_untimed : Tri → Untimed → Untimed → Untimed
choice_untimed On x y = x
choice_untimed Off x y = y
choice_untimed Unsure x y = merged x y

-- ---- steps

-- What is kept of a stored block, by the kind of the instance, its preset, and a moment.
abbrev pub untimed_of : BlockKind → ℕ → ℕ → Stored → Untimed
untimed_of kind preset now (stored.Timer last running start q) = Timer last running (if running then min (now - start) preset else 0) q
untimed_of kind preset now (stored.Counter last cv q) = Counter last (capped kind preset cv) q
untimed_of kind preset now (stored.Bistable q) = Output (three_known q)

-- A step with known inputs. A timer that has run for a time steps as one that began at 0 does when that time has passed. Where Q alone is known,
-- IN OFF makes all of a TON known, and IN ON all of a TOF; so do R of a CTU and LD of a CTD.
unfoldable pub step_known : BlockKind → ℕ → Untimed → Bool → Bool → Untimed
step_known kind preset (Timer last running elapsed q) x y = untimed_of kind preset elapsed (step kind preset (stored.Timer last running 0 q) x y elapsed)
step_known kind preset (Counter last cv q) x y = untimed_of kind preset 0 (step kind preset (stored.Counter last cv q) x y 0)
step_known Ton preset (Output q) false y = Timer false false 0 false
step_known Tof preset (Output q) true y = Timer true false 0 true
step_known Ctu preset (Output q) x true = Counter x (capped Ctu preset (pos 0)) (int_le (pos preset) (pos 0))
step_known Ctd preset (Output q) x true = Counter x (capped Ctd preset (pos preset)) (int_le (pos preset) (pos 0))
step_known Sr preset (Output q) x y = Output (three_join (three_known x) (three_meet (three_known (not y)) q))
step_known Rs preset (Output q) x y = Output (three_meet (three_known (not y)) (three_join (three_known x) q))
step_known kind preset (Output q) x y = Output Unsure
step_known kind preset Anything x y = Anything

-- By an input: what is left with its value, or with either where it is open.
abbrev pub by_input : Tri → (Bool → Untimed) → Untimed
by_input x f = choice_untimed x (f true) (f false)

abbrev pub step_untimed : BlockKind → ℕ → Untimed → Tri → Tri → Untimed
step_untimed kind preset b x y = by_input x (λ first. by_input y (λ second. step_known kind preset b first second))

-- Of what is stored nothing is kept without a moment and a kind: `untimed_of` says what is kept by them.
abbrev pub untimed : Keeping Tri Untimed
untimed = record { stored = λ s. Anything; q = q_untimed; step = λ kind preset b x y now. step_untimed kind preset b x y; choice = choice_untimed }
