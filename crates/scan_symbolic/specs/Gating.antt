-- Private: what actions, jumps and guards do in a look, as the code does it.
use Rattle.std.specs.Prelude.{ℕ, ◌+◌, false, if◌then◌else◌, List, [], ◌∷◌, nat_lt, ◌&&◌, Option, Some, None}
use Rattle.diagram_program.specs.declared.gates.TheConstants.{OWN}
use Rattle.diagram_program.specs.declared.gates.Action.{Action}
use Rattle.diagram_program.specs.declared.gates.Exit.{Exit}
use Rattle.diagram_program.specs.declared.gates.Leap.{Leap}
use Rattle.diagram_program.specs.Program.{block_in}
use Rattle.scan_signals.specs.Algebra.{Algebra}
use Rattle.scan_cycle.specs.Cells.{Frame, Kept, at, put_in, var_in, memory_of, coil_value}
use Rattle.scan_cycle.specs.Gating.{among}

-- ---- actions

-- What an action leaves, over any signal.
abbrev pub acted : {S : Type 0} → Algebra S → Kept → S → List S → Action → Frame S → Frame S
acted o k guard links a f =
    let value = at f.values (var_in a.cell) (o.known false) in
    let end = at f.ends (block_in a.cell) (o.known false) in
    record {
      values = put_in f.values (var_in a.cell) (o.choice guard (coil_value o a.cell (among o links a.left) (o.known (memory_of k a.cell)) value) value);
      ends = put_in f.ends (block_in a.cell) (o.choice guard (among o links (OWN + a.place)) end);
    }

-- What these actions leave.
unfoldable pub effects_of : {S : Type 0} → Algebra S → Kept → S → List S → List Action → Frame S → Frame S
effects_of o k guard links [] f = f
effects_of o k guard links (a ∷ more) f = effects_of o k guard links more (acted o k guard links a f)

-- ---- jumps and guards

-- Whether a rung's jump is taken, under the rung's guard.
abbrev pub taken_by_exit : {S : Type 0} → Algebra S → Option Exit → S → List S → S
taken_by_exit o None guard links = o.known false
taken_by_exit o (Some exit) guard links = o.meet guard (among o links exit.left)

-- The AND, over the rungs before rung j with a jump past it, of NOT that this jump is taken.
unfoldable pub guard_by : {S : Type 0} → Algebra S → List S → ℕ → List Leap → S → S
guard_by o taken j [] all = all
guard_by o taken j (l ∷ ls) all =
    guard_by o taken j ls (if nat_lt l.rung j && nat_lt j l.target then o.meet all (o.inverse (among o taken l.rung)) else all)
