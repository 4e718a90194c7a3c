-- Private: rungs that find the same left links where all that is marked is the same.
use Rattle.std.specs.Prelude.{◌≡◌, ◌⊎◌, ℕ, List, Option, None, Some, length, slice_get}
use Rattle.diagram_program.specs.declared.cell.Cell.{Cell}
use Rattle.diagram_program.specs.declared.cell.Cell.TheVariants.{Wire, Contact, Coil, Block}
use Rattle.diagram_program.specs.declared.cell.Operand.{Operand}
use Rattle.diagram_program.specs.declared.cell.Operand.TheVariants.{Var, Output}
use Rattle.diagram_program.specs.declared.gates.Gate.{Gate}
use Rattle.diagram_program.specs.declared.gates.Literal.{Literal}
use Rattle.diagram_program.specs.declared.gates.Literal.TheVariants.{Is, Not, Other}
use Rattle.diagram_program.specs.Gates.{gates_of}
use Rattle.diagram_program.specs.Program.{Drawing}
use Rattle.scan_cycle.specs.Programs.{diagram_of}
use Rattle.diff_matching.specs.Matching.{Matching}
use Rattle.diff_cases.specs.Cases.{AreOfOneKind}
use Rattle.diff_rungs.specs.declared.marks.Marks.{Marks}
use Rattle.diff_rungs.specs.Marks.{IsMarked}

-- Two lists are as long, and member by member they are so.
pub record AreEach {A : Type 0} (R : A → A → Type 0) (xs ys : List A) : Type 0 where
  pub as_long : length xs ≡ length ys
  pub each : (n : ℕ) (x y : A) → slice_get xs n ≡ Some x → slice_get ys n ≡ Some y → R x y

-- Two variables are a marked pair, which may be of inputs.
abbrev pub IsMarkedVariable : Matching → Marks → ℕ → ℕ → Type 0
IsMarkedVariable m c a b = IsMarked m.inputs c.inputs.items (record { old = a; new = b }) ⊎ IsMarked m.variables c.variables.items (record { old = a; new = b })

-- Two instances are a marked pair.
abbrev pub IsMarkedInstance : Matching → Marks → ℕ → ℕ → Type 0
IsMarkedInstance m c a b = IsMarked m.instances c.instances.items (record { old = a; new = b })

-- Two memories are a marked pair, or there is none.
abbrev pub IsMarkedMemory : Matching → Marks → Option ℕ → Option ℕ → Type 0
IsMarkedMemory m c None None = Unit {0}
IsMarkedMemory m c (Some a) (Some b) = IsMarked m.memories c.memories.items (record { old = a; new = b })
IsMarkedMemory m c x y = ⊥

-- Contacts read the same.
abbrev pub ReadSame : Matching → Marks → Operand → Operand → Type 0
ReadSame m c (Var a) (Var b) = IsMarkedVariable m c a b
ReadSame m c (Output a) (Output b) = IsMarkedInstance m c a b
ReadSame m c x y = ⊥

-- Two instances make the same step by the same inputs.
abbrev pub StepSame : Matching → Drawing → Drawing → Marks → ℕ → ℕ → Type 0
StepSame m p q c a b = IsMarkedInstance m c a b × AreOfOneKind p q a b

-- ---- gates

-- Two cells let the same through.
abbrev pub LetSame : Matching → Drawing → Drawing → Marks → Cell → Cell → Type 0
LetSame m p q c Wire Wire = Unit {0}
LetSame m p q c (Contact mode operand memory) (Contact other read kept) = (mode ≡ other) × ReadSame m c operand read × IsMarkedMemory m c memory kept
LetSame m p q c (Coil mode var memory) (Coil other written kept) = Unit {0}
LetSame m p q c (Block a) (Block b) = StepSame m p q c a b
LetSame m p q c x y = ⊥

-- Two literals say the same, at a place of rung i of OLD and of rung j of NEW.
abbrev pub SaySame : Matching → Drawing → Drawing → Marks → ℕ → ℕ → ℕ → Literal → Literal → Type 0
SaySame m p q c i j place (Is a) (Is b) = IsMarkedVariable m c a b
SaySame m p q c i j place (Not a) (Not b) = IsMarkedVariable m c a b
SaySame m p q c i j place Other Other = LetSame m p q c ((diagram_of p).cell i place) ((diagram_of q).cell j place)
SaySame m p q c i j place x y = ⊥

-- Two gates give the same by the same links.
pub record GiveSame (m : Matching) (p q : Drawing) (c : Marks) (i j : ℕ) (a b : Gate) : Type 0 where
  pub place : a.place ≡ b.place
  pub left : a.left ≡ b.left
  pub below : a.below ≡ b.below
  pub other : a.other ≡ b.other
  pub literal : SaySame m p q c i j a.place a.literal b.literal

-- Two rungs find the same left links.
abbrev pub FindSame : Matching → Drawing → Drawing → Marks → ℕ → ℕ → Type 0
FindSame m p q c i j = AreEach (GiveSame m p q c i j) (gates_of p i) (gates_of q j)
