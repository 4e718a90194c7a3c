-- The scan over a signal from a state that is known in part: values and memories are signals, and an instance is kept in a way of its own.
-- Where all is known it is the scan; over any signal it leaves what can be known of several scans, one after the other.
use Rattle.std.specs.Prelude.{ℕ, ◌/◌, ◌%◌, Bool, true, false, if◌then◌else◌, nat_lt, List, [], ◌∷◌, ◌++◌, get_or, slice_index_or, map, set, Option, Some, None, zero, suc}
use Rattle.diagram_declarations.specs.declared.kind.BlockKind.{BlockKind}
use Rattle.diagram_declarations.specs.declared.kind.BlockKind.TheVariants.{Ton}
use Rattle.diagram_program.specs.declared.geometry.TheConstants.{ROWS, PLACES}
use Rattle.diagram_program.specs.declared.cell.Cell.{Cell}
use Rattle.diagram_program.specs.declared.cell.Cell.TheVariants.{Contact, Coil, Block}
use Rattle.diagram_program.specs.Program.{is_block, memory_in}
use Rattle.scan_signals.specs.declared.block.Stored.{Stored}
use Rattle.scan_signals.specs.Algebra.{Algebra}
use Rattle.scan_signals.specs.Blocks.{step, q_of, new_block}
use Rattle.scan_cycle.specs.Cells.{place_at, Diagram, Frame, frame, at, put_in, operand_value, stored_by, closed}
use Rattle.scan_cycle.specs.Routes.{Circuit, left_link}
use Rattle.scan_cycle.specs.Rung.{Held, lower, second}
use Rattle.scan_cycle.specs.Scan.{given}

-- How an instance is kept over a signal: what is stored and known, its Q, its step by two inputs at a moment, and a choice.
pub record Keeping (S B : Type 0) : Type 0 where
  pub stored : Stored → B
  pub q : B → S
  pub step : BlockKind → ℕ → B → S → S → ℕ → B
  pub choice : S → B → B → B

-- Truth values keep what is stored.
abbrev pub plainly : Keeping Bool Stored
plainly = record { stored = λ s. s; q = q_of; step = step; choice = λ c x y. if c then x else y }

-- What is known of all that a scan changes.
pub record Known (S B : Type 0) : Type 0 where
  pub values : List S
  pub memories : List S
  pub blocks : List B

-- All of it known.
abbrev pub all_known : {S B : Type 0} → Algebra S → Keeping S B → Held → Known S B
all_known o w h = record { values = map o.known h.values; memories = map o.known h.kept.memories; blocks = map w.stored h.kept.blocks }

abbrev pub frame_in : {S B : Type 0} → Keeping S B → Known S B → Frame S
frame_in w k = frame k.values (map w.q k.blocks)

abbrev pub kept_at : {S B : Type 0} → Keeping S B → Known S B → ℕ → B
kept_at w k inst = get_or k.blocks inst (w.stored (new_block Ton))

-- The block of a cell after its step; a cell without one gives none.
abbrev pub q_in : {S B : Type 0} → Algebra S → Keeping S B → Diagram → ℕ → Known S B → Cell → S → S → S
q_in o w d now k (Block inst) x y = w.q (w.step (d.kind inst) (d.preset inst) (kept_at w k inst) x y now)
q_in o w d now k other x y = o.known false

-- A rung as the power sees it, from what is known at its start.
abbrev pub circuit_in : {S B : Type 0} → Algebra S → Keeping S B → Diagram → ℕ → ℕ → Known S B → Circuit S
circuit_in o w d now j k =
    let cell = λ (row column : ℕ). d.cell j (place_at row column) in record {
      feeds = d.feeds j;
      is_block = λ row column. is_block (cell row column);
      closed = λ row column. closed o (frame_in w k) (at k.memories (memory_in (cell row column)) (o.known false)) (cell row column);
      q = λ row column x y. q_in o w d now k (cell row column) x (lower o (d.linked j (place_at row column)) y);
    }

abbrev pub link_in : {S B : Type 0} → Algebra S → Keeping S B → Diagram → ℕ → ℕ → Known S B → ℕ → S
link_in o w d now j k place = left_link o (circuit_in o w d now j k) (place % ROWS) (place / ROWS)

-- What a cell leaves: each write is the choice, by the rung's guard, between the new value and the old one.
abbrev pub changed_in : {S B : Type 0} → Algebra S → Keeping S B → Diagram → ℕ → Frame S → S → Cell → S → S → Known S B → Known S B
changed_in o w d now start guard (Contact mode operand memory) x y k =
    record k { memories = put_in k.memories memory (o.choice guard (operand_value o start operand) (at k.memories memory (o.known false))) }
changed_in o w d now start guard (Coil mode var memory) x y k =
    let old = get_or k.values var (o.known false) in
    let m = at k.memories memory (o.known false) in
    record { values = set k.values var (o.choice guard (stored_by o mode x m old) old); memories = put_in k.memories memory (o.choice guard x m); blocks = k.blocks }
changed_in o w d now start guard (Block inst) x y k =
    record k { blocks = set k.blocks inst (w.choice guard (w.step (d.kind inst) (d.preset inst) (kept_at w k inst) x y now) (kept_at w k inst)) }
changed_in o w d now start guard other x y k = k

-- After the cells at the places below n.
unfoldable pub changes_in : {S B : Type 0} → Algebra S → Keeping S B → Diagram → ℕ → ℕ → Frame S → S → (ℕ → S) → ℕ → Known S B → Known S B
changes_in o w d now j start guard links zero k = k
changes_in o w d now j start guard links (suc n) k =
    changed_in o w d now start guard (d.cell j n) (links n) (second o d j links n) (changes_in o w d now j start guard links n k)

abbrev pub evaluated_in : {S B : Type 0} → Algebra S → Keeping S B → Diagram → ℕ → ℕ → S → Known S B → Known S B
evaluated_in o w d now j guard k = changes_in o w d now j (frame_in w k) guard (link_in o w d now j k) PLACES k

-- ---- the rungs, and the jumps between them

-- The AND of f i over the numbers i below n that pass the test; ON where none does.
unfoldable pub meet_where : {S : Type 0} → Algebra S → (ℕ → Bool) → (ℕ → S) → ℕ → S
meet_where o passes f zero = o.known true
meet_where o passes f (suc n) = if passes n then o.meet (meet_where o passes f n) (f n) else meet_where o passes f n

-- A jump passes over the rungs before its target.
abbrev pub passes_over : Option (ℕ × ℕ) → ℕ → Bool
passes_over None j = false
passes_over (Some (place, target)) j = nat_lt j target

-- The guard of rung j: the AND, over the earlier rungs with a jump that passes over j, of NOT that this jump is taken.
abbrev pub guard_of : {S : Type 0} → Algebra S → Diagram → List S → ℕ → S
guard_of o d taken j = meet_where o (λ i. passes_over (d.jump i) j) (λ i. o.inverse (slice_index_or taken i (o.known false))) j

-- A jump is taken where its rung is evaluated and its left link is ON.
abbrev pub taken_by : {S : Type 0} → Algebra S → Option (ℕ × ℕ) → S → (ℕ → S) → S
taken_by o None guard links = o.known false
taken_by o (Some (place, target)) guard links = o.meet guard (links place)

-- After some rungs: what is known, and for each of them whether its jump is taken.
pub record Passed (S B : Type 0) : Type 0 where
  pub known : Known S B
  pub taken : List S

abbrev pub passed_more : {S B : Type 0} → Algebra S → Keeping S B → Diagram → ℕ → ℕ → Passed S B → Passed S B
passed_more o w d now j s =
    let guard = guard_of o d s.taken j in
    record { known = evaluated_in o w d now j guard s.known; taken = s.taken ++ (taken_by o (d.jump j) guard (link_in o w d now j s.known) ∷ []) }

-- After the first n rungs.
unfoldable pub passed : {S B : Type 0} → Algebra S → Keeping S B → Diagram → ℕ → Known S B → ℕ → Passed S B
passed o w d now k zero = record { known = k; taken = [] }
passed o w d now k (suc j) = passed_more o w d now j (passed o w d now k j)

-- What one scan leaves.
abbrev pub after_known : {S B : Type 0} → Algebra S → Keeping S B → Diagram → ℕ → List S → Known S B → Known S B
after_known o w d now inputs k = (passed o w d now (record k { values = given d.inputs inputs k.values }) d.rungs).known
