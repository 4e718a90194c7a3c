-- One step of a standard function block: a bistable, a counter or a timer (IEC 61131-3:2013, 6.6.3.5). PT and PV are the preset;
-- moments are whole milliseconds.
-- What the standard's timing diagrams leave open is the profile's choice: a timer with PT 0 expires immediately, a rise during a pulse
-- does nothing, a TP with PT 0 never begins, a reset or load goes before a rise, and CV stops at the ends of its range.
use Rattle.std.specs.Prelude.{ℕ, ◌-◌, min, Bool, true, false, not, if◌then◌else◌, ◌&&◌, ◌||◌, nat_lt, nat_le, pos, negsuc, ◌+ℤ◌, ◌-ℤ◌, int_lt, int_le}
use Rattle.diagram_declarations.specs.declared.kind.BlockKind.{BlockKind}
use Rattle.diagram_declarations.specs.declared.kind.BlockKind.TheVariants.{Ton, Tof, Tp, Ctu, Ctd, Sr, Rs}
use Rattle.scan_signals.specs.declared.block.Stored.{Stored}
use Rattle.scan_signals.specs.declared.block.Stored.TheVariants.{Timer, Counter, Bistable}

-- A timer stores the last IN, whether it runs, the moment at which it began to (0 where it doesn't run) and Q;
-- a counter the last count input, CV and Q; a bistable Q1.
abbrev pub q_of : Stored → Bool
q_of stored = elim stored [ Timer last running start q ↦ q | Counter last cv q ↦ q | Bistable q ↦ q ]

-- The elapsed time of a timer at a moment (ET): how long it has run, at most PT; 0 where it doesn't run.
abbrev pub elapsed : ℕ → ℕ → Stored → ℕ
elapsed preset now (Timer last true start q) = min (now - start) preset
elapsed preset now other = 0

-- What an instance stores before its first step.
abbrev pub new_block : BlockKind → Stored
new_block Ctu = Counter false (pos 0) false
new_block Ctd = Counter false (pos 0) false
new_block Sr = Bistable false
new_block Rs = Bistable false
new_block timer = Timer false false 0 false

-- The step of a block: its kind and preset, what it stored, its two inputs and the moment. The first input is IN, CU, CD, S1 or S,
-- the second R, LD or R1. A timer has no second input.
unfoldable pub step : BlockKind → ℕ → Stored → Bool → Bool → ℕ → Stored
-- TON, the on-delay: it runs while IN is ON, from now on where it did not run, and Q is ON once PT has passed.
step Ton preset (Timer last running start q) on second now =
    let since = if running then start else now in
    if on then Timer true true since (nat_le preset (now - since)) else Timer false false 0 false
-- TOF, the off-delay: a fall of IN starts it, and it runs until PT has passed or IN is ON. Q is ON while IN is ON or it runs.
step Tof preset (Timer last running start q) on second now =
    let since = if last then now else start in
    let runs = (last || running) && nat_lt (now - since) preset in
    if on then Timer true false 0 true else Timer false runs (if runs then since else 0) runs
-- TP, the pulse: it runs until PT has passed, whatever IN does; where it does not run, a rise of IN starts it. Q is ON while it runs.
step Tp preset (Timer last running start q) on second now =
    if running && nat_lt (now - start) preset then Timer on true start true
    else (if on && (not last && nat_lt 0 preset) then Timer on true now true else Timer on false 0 false)
-- CTU. R ON: CV is 0; otherwise a rise of the count input adds 1 below 32767. Q is CV >= PV.
step Ctu preset (Counter last cv q) on reset now =
    let value = if reset then pos 0 else (if on && (not last && int_lt cv (pos 32767)) then cv +ℤ pos 1 else cv) in
    Counter on value (int_le (pos preset) value)
-- CTD. LD ON: CV is PV; otherwise a rise of the count input takes 1 away above -32768. Q is CV <= 0.
step Ctd preset (Counter last cv q) on load now =
    let value = if load then pos preset else (if on && (not last && int_lt (negsuc 32767) cv) then cv -ℤ pos 1 else cv) in
    Counter on value (int_le value (pos 0))
-- SR, with dominant set: Q1 := S1 OR (NOT R AND Q1). RS, with dominant reset: Q1 := NOT R1 AND (S OR Q1).
step Sr preset (Bistable q) set reset now = Bistable (set || (not reset && q))
step Rs preset (Bistable q) set reset now = Bistable (not reset && (set || q))
-- A block that is not of the kind is left unchanged; no state holds one.
step kind preset other on second now = other
