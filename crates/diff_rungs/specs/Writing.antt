-- Private: what stays marked after a rung.
use Rattle.std.specs.Prelude.{◌≡◌, ℕ, Bool, List}
use Rattle.diagram_program.specs.declared.cell.Cell.{Cell}
use Rattle.diagram_program.specs.declared.cell.Cell.TheVariants as cell
use Rattle.diagram_program.specs.declared.gates.Action.{Action}
use Rattle.diagram_program.specs.declared.mode.CoilMode.{CoilMode}
use Rattle.diagram_program.specs.declared.mode.CoilMode.TheVariants.{Store, Inverse, Set, Reset, Rising, Falling}
use Rattle.diagram_program.specs.Program.{Drawing}
use Rattle.scan_cycle.specs.Cells.{Diagram, Frame}
use Rattle.scan_cycle.specs.Gating.{changes_of}
use Rattle.scan_cycle.specs.Programs.{diagram_of}
use Rattle.scan_cycle.specs.Rung.{Held, evaluated, frame_of}
use Rattle.diff_matching.specs.Matching.{Matching}
use Rattle.diff_rungs.specs.declared.marks.Marks.{Marks}
use Rattle.diff_rungs.specs.declared.marks.Side.{Side}
use Rattle.diff_rungs.specs.declared.writing.Coil.{Coil}
use Rattle.diff_rungs.specs.Marks.{StayAsMany}
use Rattle.diff_rungs.specs.Reading.{IsMarkedMemory, IsMarkedVariable, ReadSame, StepSame}
use Rattle.diff_rungs.specs.Same.{AreSame, From}

-- What a coil of this mode reads is the same.
abbrev pub CoilReadsSame : Matching → Marks → CoilMode → Coil → Coil → Type 0
CoilReadsSame m c Store a b = Unit {0}
CoilReadsSame m c Inverse a b = Unit {0}
CoilReadsSame m c Set a b = IsMarkedVariable m c a.var b.var
CoilReadsSame m c Reset a b = IsMarkedVariable m c a.var b.var
CoilReadsSame m c Rising a b = IsMarkedMemory m c a.memory b.memory
CoilReadsSame m c Falling a b = IsMarkedMemory m c a.memory b.memory

-- Two coils write the same by the same link.
abbrev pub CoilSame : Matching → Marks → Coil → Coil → Type 0
CoilSame m c a b = (a.mode ≡ b.mode) × CoilReadsSame m c a.mode a b

-- Two cells write the same by the same links. Contacts remember what was there at the start of the rung.
abbrev pub WriteSame : Matching → Drawing → Drawing → Marks → Marks → Cell → Cell → Type 0
WriteSame m p q start c (cell.Contact mode operand memory) (cell.Contact other read kept) = ReadSame m start operand read
WriteSame m p q start c (cell.Coil mode var memory) (cell.Coil other written kept) =
    CoilSame m c (record { mode = mode; var = var; memory = memory }) (record { mode = other; var = written; memory = kept })
WriteSame m p q start c (cell.Block a) (cell.Block b) = StepSame m p q c a b
WriteSame m p q start c x y = ⊥

-- Two actions write the same by the same links.
pub record ActSame (m : Matching) (p q : Drawing) (start c : Marks) (a b : Action) : Type 0 where
  pub left : a.left ≡ b.left
  pub below : a.below ≡ b.below
  pub cell : WriteSame m p q start c a.cell b.cell

-- In two rungs that find the same links these actions leave the same, where the marks are those of the second in place of the first.
abbrev pub KeepSame : Matching → Drawing → Drawing → Marks → List Action → List Action → Marks → Marks → Type 0
KeepSame m p q start olds news c d = (now : ℕ) (links : List Bool) (s t h g : Held) → AreSame m start s t → AreSame m c h g
    → AreSame m d (changes_of (diagram_of p) now (frame_of s) links olds h) (changes_of (diagram_of q) now (frame_of t) links news g)

-- The same where the actions are of one of the programs alone, and may be passed over.
pub record AreActionsSpoiled (side : Side) (m : Matching) (actions : List Action) (c d : Marks) : Type 0 where
  pub fewer : (h g : Held) → From side (AreSame m c) h g → From side (AreSame m d) h g
  pub written : (x : Diagram) (now : ℕ) (start : Frame Bool) (links : List Bool) (h g : Held) → From side (AreSame m c) h g
      → From side (AreSame m d) (changes_of x now start links actions h) g
  pub many : StayAsMany c d

-- Both rungs leave the same.
abbrev pub RungsKeepSame : Matching → Drawing → Drawing → ℕ → ℕ → Marks → Marks → Type 0
RungsKeepSame m p q i j c d = (now : ℕ) (h g : Held) → AreSame m c h g → AreSame m d (evaluated (diagram_of p) now i h) (evaluated (diagram_of q) now j g)
