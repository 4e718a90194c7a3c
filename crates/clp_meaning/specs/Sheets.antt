-- The elements of a rung of ClassicLadder, and how power goes through them (its calc.c). Rows and columns are counted from 0.
use Rattle.std.specs.Prelude.{◌≡◌, ◌⊎◌, ◌<◌, ◌≤◌, ℕ, zero, suc, ◌+◌, ◌-◌, ◌*◌, ◌/◌, ◌%◌, ◌==◌, ◌&&◌, ◌||◌, nat_le, nat_lt, min, max, not, Bool, true, false, IsTrue, List, slice_index_or, if◌then◌else◌}
use Rattle.diagram_program.specs.declared.geometry.TheConstants.{ROWS, COLUMNS}
use Rattle.diagram_program.specs.declared.mode.CoilMode.{CoilMode}
use Rattle.diagram_program.specs.declared.mode.CoilMode.TheVariants as coil
use Rattle.diagram_program.specs.declared.mode.Mode.{Mode}
use Rattle.clp_project.specs.declared.element.Element.{Element}
use Rattle.clp_project.specs.declared.reading.ReadingOptions.{ReadingOptions}
use Rattle.clp_meaning.specs.declared.meaning.BlockSort.{BlockSort}
use Rattle.clp_meaning.specs.declared.meaning.BlockSort.TheVariants as sort
use Rattle.clp_meaning.specs.declared.meaning.Meaning.{Meaning}
use Rattle.clp_meaning.specs.declared.meaning.Meaning.TheVariants as meaning
use Rattle.clp_meaning.specs.declared.meaning.ClpOperand.TheVariants as source
use Rattle.clp_meaning.specs.Meanings.{element_meaning, is_blank_kind, meaning_of, source_of}

-- ---- elements

abbrev pub nothing : Element
nothing = record { kind = 0; link = 0; class = 0; number = 0 }

-- Past the last column is nothing.
unfoldable pub element_at : List Element → ℕ → ℕ → Element
element_at es r c = if nat_lt c COLUMNS then slice_index_or es (COLUMNS * r + c) nothing else nothing

abbrev pub is_blank_at : List Element → ℕ → ℕ → Bool
is_blank_at es r c = is_blank_kind (element_at es r c).kind

-- The row and the one above it are joined on the left of the column.
abbrev pub IsLinked : List Element → ℕ → ℕ → Type 0
IsLinked es r c = ¬ ((element_at es r c).link ≡ 0)

abbrev pub is_block : Meaning → Bool
is_block m = elim m [ meaning.Block s ↦ true | _ ↦ false ]

-- The place is a part of an element whose place is to the right: a block has two columns and a compare (20) three, and the element
-- is in the last one.
unfoldable pub is_left_half : ReadingOptions → List Element → ℕ → ℕ → Bool
is_left_half reading es r c =
    is_block (meaning_of (element_at es r (c + 1)).kind)
    || (reading.opened && ((element_at es r (c + 1)).kind == 20 || (element_at es r (c + 2)).kind == 20))

-- Below an old timer (10) is its second output, which is ON while it runs.
abbrev pub IsRunning : List Element → ℕ → ℕ → Type 0
IsRunning es r c = (1 ≤ r) × ((element_at es (r - 1) c).kind ≡ 10)

-- Nothing is drawn to the second input of an old timer, its control: no link on its left, no element, and no second output of
-- another timer.
unfoldable pub is_uncontrolled : ReadingOptions → List Element → ℕ → ℕ → Bool
is_uncontrolled reading es r c =
    nat_le 2 c && (nat_lt (r + 1) ROWS
    && ((element_at es (r + 1) (c - 1)).link == 0 && ((element_at es (r + 2) (c - 1)).link == 0
    && (is_blank_at es (r + 1) (c - 2) && (not (is_left_half reading es (r + 1) (c - 2)) && not ((element_at es r (c - 2)).kind == 10))))))

-- What an element means: power goes through the left half of a block or a compare as through a wire. The engine takes the control
-- of an old timer to which nothing is drawn as OFF, so that its time never passes and its output is always OFF.
unfoldable pub meaning_at : ReadingOptions → List Element → ℕ → ℕ → Meaning
meaning_at reading es r c =
    if is_left_half reading es r c then (if is_blank_at es r c then meaning.Wire else meaning.Other)
    else (if (element_at es r c).kind == 10 && (not reading.control_on && is_uncontrolled reading es r c) then meaning.Off
    else element_meaning reading (element_at es r c))

-- ---- power

-- what power goes through
abbrev pub Passes : Meaning → Type 0
Passes m = (m ≡ meaning.Wire) ⊎ (((n : Mode) × (m ≡ meaning.Contact n)) ⊎ (((n : Mode) × (m ≡ meaning.Opened n)) ⊎ (((s : BlockSort) × (m ≡ meaning.Block s)) ⊎ (m ≡ meaning.Off))))

-- Links on the left of the column join the two rows.
abbrev pub AreTied : List Element → ℕ → ℕ → ℕ → Type 0
AreTied es r c q = (k : ℕ) → min r q ≤ k → k < max r q → IsLinked es (k + 1) c

-- Power can leave the place on its right: through the element, where power can come to it, or from the second output of the old
-- timer above, where it can come to that.
abbrev pub Leaves : ReadingOptions → List Element → ℕ → ℕ → Type 0 → Type 0 → Type 0
Leaves reading es q c here above = (Passes (meaning_at reading es q c) × here) ⊎ (IsRunning es q c × above)

-- Power can come to the element: it is in the first column, or power from the column before comes to its left.
unfoldable pub Reached : ReadingOptions → List Element → ℕ → ℕ → Type 0
Reached reading es zero r = Unit {0}
Reached reading es (suc c) r = (q : ℕ) × (q < ROWS) × AreTied es r (suc c) q × Leaves reading es q c (Reached reading es c q) (Reached reading es c (q - 1))

-- Power can come to the left of the element from the row q.
unfoldable pub IsFed : ReadingOptions → List Element → ℕ → ℕ → ℕ → Type 0
IsFed reading es r c q = (1 ≤ c) × AreTied es r c q × Leaves reading es q (c - 1) (Reached reading es (c - 1) q) (Reached reading es (c - 1) (q - 1))

-- Power comes to the element from the second output of an old timer.
unfoldable pub IsRun : ReadingOptions → List Element → ℕ → ℕ → Type 0
IsRun reading es r c = (q : ℕ) × (q < ROWS) × IsFed reading es r c q × IsRunning es q (c - 1)

-- ---- where elements may stand

-- what writes a variable or leads out of the rung
abbrev pub IsEffect : Meaning → Type 0
IsEffect m = (m ≡ meaning.Jump) ⊎ ((n : CoilMode) × (m ≡ meaning.Coil n))

-- A rung ends at a jump that is taken, so nothing may come below it.
unfoldable pub EndsRung : ReadingOptions → List Element → ℕ → ℕ → Type 0
EndsRung reading es r c = (q : ℕ) → r < q → q < ROWS → ¬ (IsEffect (meaning_at reading es q c))

-- Nothing is drawn to the control of an old timer, and it is taken as ON.
abbrev pub IsTakenOn : ReadingOptions → List Element → ℕ → ℕ → Type 0
IsTakenOn reading es r c = IsTrue reading.control_on × IsTrue (is_uncontrolled reading es r c)

-- The control of an old timer, which stops its time, is joined with the first input, or at the rail, or taken as ON.
abbrev pub IsTied : ReadingOptions → List Element → ℕ → ℕ → Type 0
IsTied reading es r c = (c ≡ 1) ⊎ (IsLinked es (r + 1) (c - 1) ⊎ IsTakenOn reading es r c)

-- A block has its four places, which nothing else uses and no link joins with others.
unfoldable pub HasPlaces : ReadingOptions → List Element → ℕ → ℕ → Type 0
HasPlaces reading es r c =
    (1 ≤ c) × (r + 1 < ROWS) × ¬ (IsLinked es r c) × ¬ (IsLinked es (r + 1) c)
    × IsTrue (is_blank_at es (r + 1) (c - 1)) × IsTrue (is_blank_at es (r + 1) c) × (is_left_half reading es (r + 1) c ≡ false)

-- A compare has its three places, and no link joins them with others.
abbrev pub HasRow : List Element → ℕ → ℕ → Type 0
HasRow es r c =
    (2 ≤ c) × ¬ (IsLinked es r c) × ¬ (IsLinked es r (c - 1)) × ¬ (IsLinked es (r + 1) c) × ¬ (IsLinked es (r + 1) (c - 1))

-- Outputs are in the last column, contacts before it.
abbrev pub StandsAs : ReadingOptions → List Element → ℕ → ℕ → Meaning → Type 0
StandsAs reading es r c (meaning.Contact n) = c + 1 < COLUMNS
StandsAs reading es r c (meaning.Opened n) = (c + 1 < COLUMNS) × ((element_at es r c).kind ≡ 20 → HasRow es r c)
StandsAs reading es r c (meaning.Coil n) = c + 1 ≡ COLUMNS
StandsAs reading es r c meaning.Operate = c + 1 ≡ COLUMNS
StandsAs reading es r c meaning.Jump = (c + 1 ≡ COLUMNS) × EndsRung reading es r c
StandsAs reading es r c (meaning.Block s) = HasPlaces reading es r c × (s ≡ sort.Timer → IsTied reading es r c)
StandsAs reading es r c meaning.Off = HasPlaces reading es r c × (c + 1 < COLUMNS)
StandsAs reading es r c m = Unit {0}

unfoldable pub Stands : ReadingOptions → List Element → ℕ → ℕ → Type 0
Stands reading es r c = StandsAs reading es r c (meaning_at reading es r c)

-- ---- contacts on blocks

abbrev pub IsContact : Meaning → Type 0
IsContact m = (n : Mode) × (m ≡ meaning.Contact n)

-- The block of this sort with this number is at a place before this one, by column and row.
abbrev pub IsDrawnBefore : ReadingOptions → List Element → BlockSort → ℕ → ℕ → Type 0
IsDrawnBefore reading es s number place =
    (i : ℕ) × (i < place) × (meaning_at reading es (i % ROWS) (i / ROWS) ≡ meaning.Block s) × ((element_at es (i % ROWS) (i / ROWS)).number ≡ number)

-- A contact reads a block of its rung that comes before it, and so its new output.
unfoldable pub ReadsLate : ReadingOptions → List Element → ℕ → ℕ → Type 0
ReadsLate reading es r c =
    IsContact (meaning_at reading es r c)
    × ((s : BlockSort) × (source_of (element_at es r c).class ≡ source.Done s) × IsDrawnBefore reading es s (element_at es r c).number (ROWS * c + r))

-- ---- elements that are left out

-- It does nothing where no power comes: all that is carried over, but of coils those alone that set or reset.
abbrev pub IsIdle : Meaning → Type 0
IsIdle m = ¬ (m ≡ meaning.Other) × ((n : CoilMode) → m ≡ meaning.Coil n → (n ≡ coil.Set) ⊎ (n ≡ coil.Reset))
