-- What is said of an element that can't be carried over.
use Rattle.std.specs.Prelude.{◌≡◌, ◌⊎◌, All, ℕ, ◌+◌, ◌-◌, ◌*◌, ◌/◌, ◌%◌, ◌<◌, ◌≤◌, false, IsTrue, List, slice_get, Some}
use Rattle.diagram_program.specs.declared.geometry.TheConstants.{ROWS, COLUMNS, PLACES}
use Rattle.diagram_program.specs.declared.mode.CoilMode.{CoilMode}
use Rattle.clp_project.specs.declared.element.Element.{Element}
use Rattle.clp_project.specs.declared.order.Placed.{Placed}
use Rattle.clp_project.specs.declared.project.Project.{Project}
use Rattle.clp_project.specs.declared.reading.ReadingOptions.{ReadingOptions}
use Rattle.clp_project.specs.Tables.{writes_number}
use Rattle.clp_meaning.specs.declared.meaning.BlockRef.{BlockRef}
use Rattle.clp_meaning.specs.declared.meaning.BlockSort.{BlockSort}
use Rattle.clp_meaning.specs.declared.meaning.BlockSort.TheVariants as sort
use Rattle.clp_meaning.specs.declared.meaning.Meaning.{Meaning}
use Rattle.clp_meaning.specs.declared.meaning.Meaning.TheVariants as meaning
use Rattle.clp_meaning.specs.declared.meaning.ClpOperand.{ClpOperand}
use Rattle.clp_meaning.specs.declared.meaning.ClpOperand.TheVariants as source
use Rattle.clp_meaning.specs.declared.meaning.Timed.{Timed}
use Rattle.clp_import.specs.declared.reason.Reason.{Reason}
use Rattle.clp_import.specs.declared.reason.Reason.TheVariants as reason
use Rattle.clp_import.specs.declared.refusal.Refusal.{Refusal}
use Rattle.clp_meaning.specs.Meanings.{IsTimed, meaning_of, source_of, table_of}
use Rattle.clp_meaning.specs.Sheets.{EndsRung, HasPlaces, HasRow, IsContact, IsIdle, IsRun, IsTied, Reached, ReadsLate, element_at, is_block, meaning_at}
use Rattle.clp_meaning.specs.Carried.{IsTarget}

-- ---- kinds

-- A compare (20), where it isn't opened.
abbrev pub IsRefusedCompare : ReadingOptions → Element → Type 0
IsRefusedCompare reading e = (e.kind ≡ 20) × (reading.opened ≡ false)

-- An operate (60), where it isn't opened or may write something else than a number.
abbrev pub IsRefusedOperate : ReadingOptions → Project → Element → Type 0
IsRefusedOperate reading p e = (e.kind ≡ 60) × ((reading.opened ≡ false) ⊎ (writes_number p.expressions.items e.number ≡ false))

-- The kind alone keeps the element from being carried over: a counter (12), a call (55), such a compare or such an operate.
unfoldable pub IsRefusedKind : ReadingOptions → Project → Element → Type 0
IsRefusedKind reading p e = (e.kind ≡ 12) ⊎ ((e.kind ≡ 55) ⊎ (IsRefusedCompare reading e ⊎ IsRefusedOperate reading p e))

-- No element of the rung is of such a kind, of which it isn't known where power leaves it.
unfoldable pub HasNoRefusedKind : ReadingOptions → Project → List Element → Type 0
HasNoRefusedKind reading p es = All (λ e. ¬ (IsRefusedKind reading p e)) es

-- ---- variables

abbrev pub IsCoil : Meaning → Type 0
IsCoil m = (n : CoilMode) × (m ≡ meaning.Coil n)

-- an output or a memory, which a coil may write
abbrev pub IsWritable : ClpOperand → Type 0
IsWritable s = (s ≡ source.Output) ⊎ (s ≡ source.Memory)

-- an input, an output or a memory
abbrev pub IsVariable : ClpOperand → Type 0
IsVariable s = (s ≡ source.Input) ⊎ IsWritable s

-- A class of variables that a program doesn't have: no step of a chart (30), and not the running output of a timer (11).
abbrev pub IsOtherClass : ℕ → Type 0
IsOtherClass class = (source_of class ≡ source.Other) × ¬ (class ≡ 30) × ¬ (class ≡ 11)

-- The number is one that a program writes out: that of a variable, of what is opened, or of a rung.
abbrev pub HasAddress : Meaning → ClpOperand → Type 0
HasAddress (meaning.Contact n) s = IsVariable s
HasAddress (meaning.Coil n) s = IsWritable s
HasAddress (meaning.Opened n) s = Unit {0}
HasAddress meaning.Jump s = Unit {0}
HasAddress m s = ⊥

-- ---- places

-- A contact in the last column, an output before it, or a compare without its three places.
abbrev pub IsOutOfPlace : List Element → ℕ → ℕ → Meaning → Type 0
IsOutOfPlace es r c (meaning.Contact n) = COLUMNS ≤ c + 1
IsOutOfPlace es r c (meaning.Opened n) = (COLUMNS ≤ c + 1) ⊎ (((element_at es r c).kind ≡ 20) × ¬ (HasRow es r c))
IsOutOfPlace es r c meaning.Off = COLUMNS ≤ c + 1
IsOutOfPlace es r c (meaning.Coil n) = ¬ (c + 1 ≡ COLUMNS)
IsOutOfPlace es r c meaning.Operate = ¬ (c + 1 ≡ COLUMNS)
IsOutOfPlace es r c meaning.Jump = ¬ (c + 1 ≡ COLUMNS)
IsOutOfPlace es r c m = ⊥

-- A block without its four places.
abbrev pub LacksPlaces : ReadingOptions → List Element → ℕ → ℕ → Type 0
LacksPlaces reading es r c = IsTrue (is_block (meaning_of (element_at es r c).kind)) × ¬ (HasPlaces reading es r c)

-- A jump in the last column, below which something writes or jumps.
abbrev pub IsAboveEffect : ReadingOptions → List Element → ℕ → ℕ → Type 0
IsAboveEffect reading es r c = (meaning_at reading es r c ≡ meaning.Jump) × (c + 1 ≡ COLUMNS) × ¬ (EndsRung reading es r c)

-- An old timer that has its four places, and a control of its own.
abbrev pub IsSwitched : ReadingOptions → List Element → ℕ → ℕ → Type 0
IsSwitched reading es r c = (meaning_at reading es r c ≡ meaning.Block sort.Timer) × HasPlaces reading es r c × ¬ (IsTied reading es r c)

-- A coil, not one that only sets or resets, to which no power can come.
abbrev pub IsUnpowered : ReadingOptions → Project → List Element → ℕ → ℕ → Type 0
IsUnpowered reading p es r c =
    IsCoil (meaning_at reading es r c) × ¬ (IsIdle (meaning_at reading es r c)) × ¬ (Reached reading es c r) × HasNoRefusedKind reading p es

-- ---- blocks

-- A program can have the block: it has a kind, and a preset of at most 2 ^ 32 - 1 milliseconds.
abbrev pub HasPreset : Project → BlockSort → ℕ → Type 0
HasPreset p s number = (t : Timed) × IsTimed s (slice_get (table_of p s) number) t × (t.preset ≤ 4294967295)

-- The block is drawn at the place i of a rung, counted row by row: its element is there, and power can come to it.
abbrev pub IsDrawn : ReadingOptions → BlockRef → List Element → ℕ → Type 0
IsDrawn reading b es i =
    (meaning_at reading es (i / COLUMNS) (i % COLUMNS) ≡ meaning.Block b.sort)
    × ((element_at es (i / COLUMNS) (i % COLUMNS)).number ≡ b.number) × Reached reading es (i % COLUMNS) (i / COLUMNS)

-- The block is drawn in rung k of the scan, in rung j at another place than i.
pub record IsDrawnElsewhere (reading : ReadingOptions) (rungs : List Placed) (b : BlockRef) (j i : ℕ) : Type 0 where
  pub k : ℕ
  pub placed : Placed
  pub rung : slice_get rungs k ≡ Some placed
  pub place : ℕ
  pub within : place < PLACES
  pub other : k ≡ j → ¬ (place ≡ i)
  pub drawn : IsDrawn reading b placed.rung.elements place

-- The block whose element this is, of a sort and with a number, is drawn elsewhere too. An old timer whose time never passes is one.
abbrev pub IsDrawnTwice : ReadingOptions → List Placed → Meaning → ℕ → ℕ → ℕ → Type 0
IsDrawnTwice reading rungs (meaning.Block s) number j i = IsDrawnElsewhere reading rungs (record { sort = s; number = number }) j i
IsDrawnTwice reading rungs meaning.Off number j i = IsDrawnElsewhere reading rungs (record { sort = sort.Timer; number = number }) j i
IsDrawnTwice reading rungs m number j i = ⊥

-- It is a block that a program can't have for its kind and preset.
abbrev pub LacksPreset : Project → Meaning → ℕ → Type 0
LacksPreset p (meaning.Block s) number = ¬ (HasPreset p s number)
LacksPreset p m number = ⊥

-- ---- jumps

-- A rung that comes after rung k in the scan has the number, and is of the same section.
abbrev pub HasLater : List Placed → ℕ → ℕ → ℕ → Type 0
HasLater rungs k section number = (later : ℕ) × (k < later) × IsTarget rungs section number later

-- ---- reasons

-- What a reason says of the element in row r and column c of the rung x, which is rung k of the scan.
unfoldable pub Holds : ReadingOptions → Project → ℕ → Placed → Reason → ℕ → ℕ → Type 0
Holds reading p k x reason.Counter r c = (element_at x.rung.elements r c).kind ≡ 12
Holds reading p k x reason.Compare r c = IsRefusedCompare reading (element_at x.rung.elements r c)
Holds reading p k x reason.Operate r c = IsRefusedOperate reading p (element_at x.rung.elements r c)
Holds reading p k x reason.Call r c = (element_at x.rung.elements r c).kind ≡ 55
Holds reading p k x reason.Unknown r c =
    (meaning_at reading x.rung.elements r c ≡ meaning.Other) × ¬ (IsRefusedKind reading p (element_at x.rung.elements r c))
Holds reading p k x reason.Step r c = IsContact (meaning_at reading x.rung.elements r c) × ((element_at x.rung.elements r c).class ≡ 30)
Holds reading p k x reason.RunningContact r c = IsContact (meaning_at reading x.rung.elements r c) × ((element_at x.rung.elements r c).class ≡ 11)
Holds reading p k x reason.OtherContact r c = IsContact (meaning_at reading x.rung.elements r c) × IsOtherClass (element_at x.rung.elements r c).class
Holds reading p k x reason.WritesInput r c =
    IsCoil (meaning_at reading x.rung.elements r c) × (source_of (element_at x.rung.elements r c).class ≡ source.Input)
Holds reading p k x reason.OtherCoil r c =
    IsCoil (meaning_at reading x.rung.elements r c) × ¬ (IsVariable (source_of (element_at x.rung.elements r c).class))
Holds reading p k x reason.LargeNumber r c =
    (99999 < (element_at x.rung.elements r c).number)
    × HasAddress (meaning_at reading x.rung.elements r c) (source_of (element_at x.rung.elements r c).class)
Holds reading p k x reason.OutOfPlace r c = IsOutOfPlace x.rung.elements r c (meaning_at reading x.rung.elements r c)
Holds reading p k x reason.BelowJump r c = IsAboveEffect reading x.rung.elements r c
Holds reading p k x reason.BlockPlaces r c = LacksPlaces reading x.rung.elements r c
Holds reading p k x reason.Switched r c = IsSwitched reading x.rung.elements r c
Holds reading p k x reason.NoPreset r c = LacksPreset p (meaning_at reading x.rung.elements r c) (element_at x.rung.elements r c).number
Holds reading p k x reason.Twice r c =
    IsDrawnTwice reading p.rungs.items (meaning_at reading x.rung.elements r c) (element_at x.rung.elements r c).number k (COLUMNS * r + c)
Holds reading p k x reason.ReadsLate r c = ReadsLate reading x.rung.elements r c
Holds reading p k x reason.NoPower r c = IsUnpowered reading p x.rung.elements r c
Holds reading p k x reason.Running r c = IsRun reading x.rung.elements r c
Holds reading p k x reason.Elsewhere r c =
    (meaning_at reading x.rung.elements r c ≡ meaning.Jump) × ¬ (HasLater p.rungs.items k x.section (element_at x.rung.elements r c).number)

-- The reason holds of the element in the row and the column, both counted from 1, of a rung with this number.
pub record IsThere (reading : ReadingOptions) (p : Project) (f : Refusal) : Type 0 where
  pub at : ℕ
  pub placed : Placed
  pub rung : slice_get p.rungs.items at ≡ Some placed
  pub number : placed.rung.number ≡ f.rung
  pub row : (1 ≤ f.row) × (f.row ≤ ROWS)
  pub column : (1 ≤ f.column) × (f.column ≤ COLUMNS)
  pub said : Holds reading p at placed f.reason (f.row - 1) (f.column - 1)
