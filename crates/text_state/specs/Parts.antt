-- Private to the reading of a state: how the records of a list of items are read, one after the other.
use Rattle.std.specs.Prelude.{codes, decimal, ◌≡◌, ◌≢◌, ◌+◌, ◌++◌, ◌∷◌, [], ⊤, ℕ, suc, Bool, true, List, Option, Some, None, Result, Ok, Err, if◌then◌else◌, length, take, slice_get, filter, flat_map, zip}
use Rattle.std.specs.List.{range_with_len}
use Rattle.std.specs.Borrow.{Bor}
use Rattle.csv.specs.declared.reader.Reader.{Reader}
use Rattle.io_text.specs.Left.{Fields, Left}
use Rattle.diagram_declarations.specs.declared.decls.Var.{Var}
use Rattle.diagram_declarations.specs.declared.decls.Instance.{Instance}
use Rattle.scan_signals.specs.Blocks.{new_block}
use Rattle.scan_signals.specs.declared.block.Stored.{Stored}
use Rattle.scan_cycle.specs.Standing.{CanStore, Standing}
use Rattle.diagram_program.specs.Program.{Drawing, cell_in, has_memory}
use Rattle.text_state.specs.declared.fault.StateFault.{StateFault}
use Rattle.text_state.specs.declared.fault.StateFault.TheVariants as fault
use Rattle.text_state.specs.ReadState.{IsFirstBad}
use Rattle.text_state.specs.StateText.{HasRecords, IsStateOf, block_record, has_record, item_records, memory_record, var_record}
use Rattle.text_state.specs.declared.version.Version.{Version}

-- ---- the records of items one by one

abbrev pub each : {A B : Type 0} → (A → B → List Fields) → List A → List B → List Fields
each row xs ys = flat_map (λ x. row x.0 x.1) (zip xs ys)

abbrev pub var_records : Var → Bool → List Fields
var_records var value = var_record var value ∷ []

abbrev pub memory_records : ℕ → Bool → List Fields
memory_records place value = memory_record place value ∷ []

abbrev pub block_records : Version → Instance → Stored → List Fields
block_records version i s = if has_record version (new_block i.kind) then block_record i.name s ∷ [] else []

-- those of the first n places where a memory is
abbrev pub memory_places_before : Drawing → ℕ → List ℕ
memory_places_before p n = filter (λ place. has_memory (cell_in p place)) (range_with_len 0 n)

-- ---- what is read of them

abbrev pub CanHold : ℕ → Instance → Stored → Type 0
CanHold moment i s = CanStore i.kind moment s

abbrev pub tells : Version → Instance → Bool
tells version i = has_record version (new_block i.kind)

abbrev pub block_item : Instance → Stored → Fields
block_item i s = block_record i.name s

abbrev pub every : {A : Type 0} → A → Bool
every x = true

-- one record of each item that has one
abbrev pub some : {A B : Type 0} → (A → Bool) → (A → B → Fields) → A → B → List Fields
some has item x y = if has x then item x y ∷ [] else []

-- The next record is the item's, or it is none of it, whatever its value; it may be missing.
abbrev pub TakesItem : {B : Type 0} → (B → Fields) → (B → Type 0) → List Fields → Reader (Bor (List ℕ)) → Option B → Type 0
TakesItem {B = B} item can rows new (Some y) = (after : List Fields) × (rows ≡ item y ∷ after) × Left new after × can y
TakesItem {B = B} item can rows new None = (y : B) → can y → take 1 rows ≢ item y ∷ []

-- All are read, and this is left.
pub record IsRead {A B : Type 0} (row : A → B → List Fields) (xs : List A) (ys : List B) (rows : List Fields) (new : Reader (Bor (List ℕ))) : Type 0 where
  pub rest : List Fields
  pub cut : rows ≡ each row xs ys ++ rest
  pub left : Left new rest

-- The records before are those of the first items, and what is there, if any, is none of the next item, whatever its value.
pub record IsStuck {A B : Type 0} (has : A → Bool) (item : A → B → Fields) (can : A → B → Type 0) (xs : List A) (ys : List B) (rows : List Fields) (before n : ℕ) : Type 0 where
  pub at : ℕ
  pub next : A
  pub here : slice_get xs at ≡ Some next
  pub told : has next ≡ true
  pub rest : List Fields
  pub cut : rows ≡ each (some has item) (take at xs) ys ++ rest
  pub count : n ≡ before + length (each (some has item) (take at xs) ys) + 1
  pub bad : (y : B) → can next y → take 1 rest ≢ item next y ∷ []

abbrev pub ReadsPart : {A B T : Type 0} → (A → Bool) → (A → B → Fields) → (A → B → Type 0) → List A → List B → List Fields → ℕ → Reader (Bor (List ℕ)) → Result T StateFault → Type 0
ReadsPart has item can xs ys rows before new (Ok u) = IsRead (some has item) xs ys rows new
ReadsPart has item can xs ys rows before new (Err (fault.BadRow n)) = IsStuck has item can xs ys rows before n
ReadsPart has item can xs ys rows before new (Err fault.Memory) = ⊤

-- ---- all items

-- The first records after the head are those of the state, and the next is that of no state with the same moment.
pub record IsItemsBad (version : Version) (p : Drawing) (s : Standing) (rows : List Fields) (n : ℕ) : Type 0 where
  pub before : ℕ
  pub count : n ≡ 2 + before + 1
  pub front : take before rows ≡ take before (item_records version p s)
  pub none : (t : Standing) → IsStateOf p t → t.moment ≡ s.moment → take (suc before) rows ≢ take (suc before) (item_records version p t)

abbrev pub ReadsItems : {T : Type 0} → Version → Drawing → Standing → List Fields → Result T StateFault → Type 0
ReadsItems version p s rows (Ok u) = rows ≡ item_records version p s
ReadsItems version p s rows (Err (fault.BadRow n)) = IsItemsBad version p s rows n
ReadsItems version p s rows (Err fault.Memory) = ⊤

-- ---- all records

-- what the reading of a state returns, where the state is given beside the result
abbrev pub ReadsAll : {T : Type 0} → Drawing → Standing → List Fields → Result T StateFault → Type 0
ReadsAll p s rows (Ok u) = HasRecords p s rows
ReadsAll p s rows (Err (fault.BadRow n)) = IsFirstBad p rows n
ReadsAll p s rows (Err fault.Memory) = ⊤

-- ---- the record of the moment

abbrev pub moment_record : ℕ → Fields
moment_record moment = codes "moment" ∷ decimal moment ∷ []
