-- Private: a look as the code makes it. It writes the values of the variables and the Qs of the instances alone: memories and what the
-- instances store are those of the state, since no element is evaluated twice in a scan.
use Rattle.std.specs.Prelude.{ℕ, false, List, [], ◌∷◌, ◌++◌, map, zero, suc}
use Rattle.diagram_program.specs.declared.geometry.TheConstants.{PLACES}
use Rattle.diagram_program.specs.declared.cell.Cell.{Cell}
use Rattle.diagram_program.specs.Program.{block_in}
use Rattle.scan_signals.specs.Algebra.{Algebra}
use Rattle.scan_signals.specs.Blocks.{q_of}
use Rattle.scan_cycle.specs.Cells.{Diagram, Frame, Kept, at, put_in, var_in, memory_of, coil_value, q_here}
use Rattle.scan_cycle.specs.Rung.{link, second, Held}
use Rattle.scan_cycle.specs.Scan.{given}
use Rattle.scan_symbolic.specs.KnownScan.{guard_of, taken_by}

-- ---- one rung, under a guard

-- What a cell with left link x and second input y leaves: each single write is the choice, by the rung's guard, between the new value
-- and the old one.
abbrev pub written : {S : Type 0} → Algebra S → Diagram → Kept → ℕ → S → Cell → S → S → Frame S → Frame S
written o d k now guard c x y f =
    let value = at f.values (var_in c) (o.known false) in
    let end = at f.ends (block_in c) (o.known false) in
    record {
      values = put_in f.values (var_in c) (o.choice guard (coil_value o c x (o.known (memory_of k c)) value) value);
      ends = put_in f.ends (block_in c) (o.choice guard (q_here o d k now c x y) end);
    }

-- After the cells at the places below n.
unfoldable pub effects : {S : Type 0} → Algebra S → Diagram → Kept → ℕ → ℕ → S → (ℕ → S) → ℕ → Frame S → Frame S
effects o d k now j guard links zero f = f
effects o d k now j guard links (suc n) f =
    written o d k now guard (d.cell j n) (links n) (second o d j links n) (effects o d k now j guard links n f)

abbrev pub after_rung : {S : Type 0} → Algebra S → Diagram → Kept → ℕ → ℕ → S → Frame S → Frame S
after_rung o d k now j guard f = effects o d k now j guard (link o d k now j f) PLACES f

-- After some rungs: the values and Qs, and for each of these rungs whether its jump is taken (OFF where it has none).
pub record Looked (S : Type 0) : Type 0 where
  pub frame : Frame S
  pub taken : List S

-- After the first n rungs.
unfoldable pub looked : {S : Type 0} → Algebra S → Diagram → Kept → ℕ → Frame S → ℕ → Looked S
looked o d k now f zero = record { frame = f; taken = [] }
looked o d k now f (suc j) =
    let s = looked o d k now f j in
    let guard = guard_of o d s.taken j in
    let taken = taken_by o (d.jump j) guard (link o d k now j s.frame) in
    record { frame = after_rung o d k now j guard s.frame; taken = s.taken ++ (taken ∷ []) }

-- What the rungs begin with: the given inputs, and all that is stored, which is known.
abbrev pub look_frame : {S : Type 0} → Algebra S → Diagram → List S → Held → Frame S
look_frame o d inputs h =
    record { values = given d.inputs inputs (map o.known h.values); ends = map (λ b. o.known (q_of b)) h.kept.blocks }

-- The values that they leave.
abbrev pub framed_look : {S : Type 0} → Algebra S → Diagram → ℕ → List S → Held → List S
framed_look o d now inputs h = (looked o d h.kept now (look_frame o d inputs h) d.rungs).frame.values
