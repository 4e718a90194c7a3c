-- Private: a rung as the code evaluates it, by its gates and then by its actions.
use Rattle.std.specs.Prelude.{◌≡◌, ℕ, ◌+◌, ◌<◌, Bool, true, false, if◌then◌else◌, List, [], ◌∷◌, slice_index_or, slice_set, zero, suc}
use Rattle.diagram_program.specs.declared.geometry.TheConstants.{PLACES}
use Rattle.diagram_program.specs.declared.gates.TheConstants.{OWN}
use Rattle.diagram_program.specs.declared.cell.Cell.{Cell}
use Rattle.diagram_program.specs.declared.gates.Gate.{Gate}
use Rattle.diagram_program.specs.declared.gates.Action.{Action}
use Rattle.diagram_program.specs.declared.gates.Literal.{Literal}
use Rattle.diagram_program.specs.declared.gates.Literal.TheVariants.{Is, Not, Other}
use Rattle.diagram_program.specs.Program.{Drawing, is_block}
use Rattle.diagram_program.specs.Gates.{left_of, below_of}
use Rattle.scan_signals.specs.Algebra.{Algebra}
use Rattle.scan_signals.specs.Truth.{plain}
use Rattle.scan_cycle.specs.Cells.{Diagram, Frame, Kept, memory_of, closed, q_here}
use Rattle.scan_cycle.specs.Rung.{second, changed, Held, link}
use Rattle.scan_cycle.specs.Programs.{diagram_of}

-- The OR of f i over the numbers i below n that pass the test; OFF where none does.
unfoldable pub join_where : {S : Type 0} → Algebra S → (ℕ → Bool) → (ℕ → S) → ℕ → S
join_where o passes f zero = o.known false
join_where o passes f (suc n) = if passes n then o.join (join_where o passes f n) (f n) else join_where o passes f n

-- The signal at a number of a list, OFF past its end.
abbrev pub among : {S : Type 0} → Algebra S → List S → ℕ → S
among o xs i = slice_index_or xs i (o.known false)

-- ---- gates

-- What a cell lets through by itself: its left link x as far as it is closed, and a block its Q, y being its second input.
abbrev pub own : {S : Type 0} → Algebra S → Diagram → Kept → ℕ → Frame S → Cell → S → S → S
own o d k now f c x y = if is_block c then q_here o d k now c x y else o.meet x (closed o f (o.known (memory_of k c)) c)

-- The same by the literal of its gate.
abbrev pub through : {S : Type 0} → Algebra S → Diagram → Kept → ℕ → Frame S → Literal → Cell → S → S → S
through o d k now f (Is var) c x y = o.meet x (slice_index_or f.values var (o.known false))
through o d k now f (Not var) c x y = o.meet x (o.inverse (slice_index_or f.values var (o.known false)))
through o d k now f Other c x y = own o d k now f c x y

abbrev pub is_other : Literal → Bool
is_other (Is var) = false
is_other (Not var) = false
is_other Other = true

-- What a gate lets through, by the links before it.
abbrev pub let_through : {S : Type 0} → Algebra S → Diagram → Kept → ℕ → ℕ → Frame S → List S → Gate → S
let_through o d k now j f links g = through o d k now f g.literal (d.cell j g.place) (among o links g.left) (among o links g.below)

-- The links after a gate that lets x through.
abbrev pub kept_by : {S : Type 0} → Algebra S → List S → Gate → S → List S
kept_by o links g x = slice_set (if is_other g.literal then slice_set links (OWN + g.place) x else links) g.place (o.join x (among o links g.other))

-- The links after a gate of rung j.
abbrev pub passed : {S : Type 0} → Algebra S → Diagram → Kept → ℕ → ℕ → Frame S → List S → Gate → List S
passed o d k now j f links g = kept_by o links g (let_through o d k now j f links g)

-- The links after these gates.
unfoldable pub ran : {S : Type 0} → Algebra S → Diagram → Kept → ℕ → ℕ → Frame S → List Gate → List S → List S
ran o d k now j f [] links = links
ran o d k now j f (g ∷ gs) links = ran o d k now j f gs (passed o d k now j f links g)

abbrev pub IsInside : Gate → Type 0
IsInside g = (g.place < PLACES) × (g.left < OWN) × (g.below < OWN) × (g.other < OWN)

-- The links of a rung are where its gates and actions look for them.
pub record AreLinks {S : Type 0} (o : Algebra S) (p : Drawing) (k : Kept) (now j : ℕ) (f : Frame S) (links : List S) : Type 0 where
  pub left : (e : ℕ) → e < PLACES → among o links (left_of p j e) ≡ link o (diagram_of p) k now j f e
  pub below : (e : ℕ) → e < PLACES → among o links (below_of p j e) ≡ second o (diagram_of p) j (link o (diagram_of p) k now j f) e
  pub own : (e : ℕ) → e < PLACES → is_block ((diagram_of p).cell j e) ≡ true
      → among o links (OWN + e) ≡ q_here o (diagram_of p) k now ((diagram_of p).cell j e) (link o (diagram_of p) k now j f e)
      (second o (diagram_of p) j (link o (diagram_of p) k now j f) e)

-- ---- actions

-- What these actions leave.
unfoldable pub changes_of : Diagram → ℕ → Frame Bool → List Bool → List Action → Held → Held
changes_of d now start links [] h = h
changes_of d now start links (a ∷ more) h =
    changes_of d now start links more (changed d now start a.cell (among plain links a.left) (among plain links a.below) h)

abbrev pub IsPlaced : Action → Type 0
IsPlaced a = (a.place < PLACES) × (a.left < OWN) × (a.below < OWN)

-- ---- values

-- All values and all Qs are values of the signal.
pub record AreValues {S : Type 0} (o : Algebra S) (V : S → Type 0) (f : Frame S) : Type 0 where
  pub values : (i : ℕ) → V (slice_index_or f.values i (o.known false))
  pub ends : (i : ℕ) → V (slice_index_or f.ends i (o.known false))
