-- Private: a rung over what is known, as the code evaluates it: by its gates, and then by its actions.
use Rattle.std.specs.Prelude.{◌≡◌, ℕ, ◌<◌, if◌then◌else◌, List, [], ◌∷◌, false, slice_index_or, slice_set}
use Rattle.diagram_program.specs.declared.geometry.TheConstants.{PLACES}
use Rattle.diagram_program.specs.declared.cell.Cell.{Cell}
use Rattle.diagram_program.specs.declared.gates.Gate.{Gate}
use Rattle.diagram_program.specs.declared.gates.Action.{Action}
use Rattle.diagram_program.specs.declared.gates.Literal.{Literal}
use Rattle.diagram_program.specs.declared.gates.Literal.TheVariants.{Is, Not, Other}
use Rattle.diagram_program.specs.Program.{Drawing, is_block, memory_in}
use Rattle.diagram_program.specs.Gates.{left_of, below_of}
use Rattle.scan_signals.specs.Algebra.{Algebra}
use Rattle.scan_cycle.specs.Cells.{Diagram, Frame, at, closed}
use Rattle.scan_cycle.specs.Rung.{second}
use Rattle.scan_cycle.specs.Programs.{diagram_of}
use Rattle.scan_cycle.specs.Gating.{among}
use Rattle.scan_symbolic.specs.KnownScan.{Keeping, Known, kept_at, link_in, q_in, changed_in}

-- Values, memories and what is kept of each instance are what a program can hold: V are the values of the signal, K what is kept.
pub record AreSure {S B : Type 0} (o : Algebra S) (V : S → Type 0) (K : B → Type 0) (w : Keeping S B) (k : Known S B) : Type 0 where
  pub values : (i : ℕ) → V (slice_index_or k.values i (o.known false))
  pub memories : (i : ℕ) → V (slice_index_or k.memories i (o.known false))
  pub blocks : (i : ℕ) → K (kept_at w k i)

-- ---- gates

-- What a cell lets through by itself: its left link x as far as it is closed, and a block its Q, y being its second input; f is what
-- contacts see.
abbrev pub own_in : {S B : Type 0} → Algebra S → Keeping S B → Diagram → ℕ → Frame S → Known S B → Cell → S → S → S
own_in o w d now f k c x y =
    if is_block c then q_in o w d now k c x y else o.meet x (closed o f (at k.memories (memory_in c) (o.known false)) c)

-- The same by the literal of its gate.
abbrev pub through_in : {S B : Type 0} → Algebra S → Keeping S B → Diagram → ℕ → Frame S → Known S B → Literal → Cell → S → S → S
through_in o w d now f k (Is var) c x y = o.meet x (slice_index_or f.values var (o.known false))
through_in o w d now f k (Not var) c x y = o.meet x (o.inverse (slice_index_or f.values var (o.known false)))
through_in o w d now f k Other c x y = own_in o w d now f k c x y

-- What a gate of rung j lets through, by the links before it.
abbrev pub let_in : {S B : Type 0} → Algebra S → Keeping S B → Diagram → ℕ → ℕ → Frame S → Known S B → List S → Gate → S
let_in o w d now j f k links g = through_in o w d now f k g.literal (d.cell j g.place) (among o links g.left) (among o links g.below)

-- The links after it.
abbrev pub passed_in : {S B : Type 0} → Algebra S → Keeping S B → Diagram → ℕ → ℕ → Frame S → Known S B → List S → Gate → List S
passed_in o w d now j f k links g = slice_set links g.place (o.join (let_in o w d now j f k links g) (among o links g.other))

-- The links after these gates.
unfoldable pub ran_in : {S B : Type 0} → Algebra S → Keeping S B → Diagram → ℕ → ℕ → Frame S → Known S B → List Gate → List S → List S
ran_in o w d now j f k [] links = links
ran_in o w d now j f k (g ∷ gs) links = ran_in o w d now j f k gs (passed_in o w d now j f k links g)

-- The links of a rung are where its actions and its jump look for them.
pub record AreLinksIn {S B : Type 0} (o : Algebra S) (w : Keeping S B) (p : Drawing) (now j : ℕ) (k : Known S B) (links : List S) : Type 0 where
  pub left : (e : ℕ) → e < PLACES → among o links (left_of p j e) ≡ link_in o w (diagram_of p) now j k e
  pub below : (e : ℕ) → e < PLACES → among o links (below_of p j e) ≡ second o (diagram_of p) j (link_in o w (diagram_of p) now j k) e

-- ---- actions

-- What an action leaves, under the guard of its rung.
abbrev pub changed_by : {S B : Type 0} → Algebra S → Keeping S B → Diagram → ℕ → Frame S → S → List S → Action → Known S B → Known S B
changed_by o w d now start guard links a k = changed_in o w d now start guard a.cell (among o links a.left) (among o links a.below) k

-- What these actions leave.
unfoldable pub changes_by : {S B : Type 0} → Algebra S → Keeping S B → Diagram → ℕ → Frame S → S → List S → List Action → Known S B → Known S B
changes_by o w d now start guard links [] k = k
changes_by o w d now start guard links (a ∷ more) k = changes_by o w d now start guard links more (changed_by o w d now start guard links a k)
