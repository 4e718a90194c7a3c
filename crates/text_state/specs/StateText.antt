-- The records of a state (the profile): the version of the text, the moment, and then one for each variable, each memory and each instance.
-- Version 2 is written; versions 1 and 2 are read.
use Rattle.std.specs.Prelude.{◌≡◌, ◌++◌, ◌∷◌, ◌+◌, ℕ, List, [], Bool, true, false, Some, codes, decimal, slice_get, length, filter, map, zip}
use Rattle.std.specs.List.{range_with_len}
use Rattle.std.specs.Fmt.{signed_decimal}
use Rattle.io_text.specs.Left.{Fields}
use Rattle.io_text.specs.Text.{bit_text, lines_text}
use Rattle.diagram_declarations.specs.declared.decls.Var.{Var}
use Rattle.diagram_declarations.specs.declared.decls.Instance.{Instance}
use Rattle.diagram_program.specs.Geometry.{at_place}
use Rattle.diagram_program.specs.Program.{Drawing, cell_in, has_memory}
use Rattle.scan_signals.specs.declared.block.Stored.{Stored}
use Rattle.scan_signals.specs.declared.block.Stored.TheVariants.{Timer, Counter, Bistable}
use Rattle.scan_signals.specs.Blocks.{new_block}
use Rattle.scan_cycle.specs.Standing.{Fits, IsStanding, Standing}
use Rattle.text_state.specs.declared.version.Version.{Version}
use Rattle.text_state.specs.declared.version.Version.TheVariants.{First, Second}

-- ---- one record

abbrev pub version_record : Version → Fields
version_record version = codes "version" ∷ elim version [ First ↦ codes "1" | Second ↦ codes "2" ] ∷ []

abbrev pub var_record : Var → Bool → Fields
var_record var value = codes "var" ∷ var.name ∷ bit_text value ∷ []

-- the memory at a place; rungs, rows and columns are counted from 1
abbrev pub memory_record : ℕ → Bool → Fields
memory_record place value =
    at_place (λ rung row column. codes "memory" ∷ decimal (rung + 1) ∷ decimal (row + 1) ∷ decimal (column + 1) ∷ bit_text value ∷ []) place

-- an instance of this name that stores this
abbrev pub block_record : List ℕ → Stored → Fields
block_record name (Timer last running start q) =
    codes "timer" ∷ name ∷ bit_text last ∷ bit_text running ∷ decimal start ∷ bit_text q ∷ []
block_record name (Counter last cv q) = codes "counter" ∷ name ∷ bit_text last ∷ signed_decimal cv ∷ bit_text q ∷ []
block_record name (Bistable q) = codes "bistable" ∷ name ∷ bit_text q ∷ []

-- Version 1 knows timers and counters alone.
abbrev pub has_record : Version → Stored → Bool
has_record First (Bistable q) = false
has_record version other = true

-- ---- all of them

-- the places that have an edge contact or edge coil: the n-th memory is that of the n-th of them, they go by rung, column and row
abbrev pub memory_places : Drawing → List ℕ
memory_places p = filter (λ place. has_memory (cell_in p place)) (range_with_len 0 (length p.sites))

-- A record for each variable and its value, as they are declared; for each memory, by its place; and for each instance that has one in this
-- version, as they are declared.
abbrev pub item_records : Version → Drawing → Standing → List Fields
item_records version p s =
    map (λ x. var_record x.0 x.1) (zip p.decls.vars s.held.values)
    ++ (map (λ x. memory_record x.0 x.1) (zip (memory_places p) s.held.kept.memories)
    ++ map (λ x. block_record x.0.name x.1) (filter (λ x. has_record version (new_block x.0.kind)) (zip p.decls.instances s.held.kept.blocks)))

abbrev pub state_records : Version → Drawing → Standing → List Fields
state_records version p s = version_record version ∷ (codes "moment" ∷ decimal s.moment ∷ []) ∷ item_records version p s

-- the text that is written
abbrev pub state_text : Drawing → Standing → List ℕ
state_text p s = lines_text (state_records Second p s)

-- ---- the states of a program

pub record IsStateOf (p : Drawing) (s : Standing) : Type 0 where
  pub fits : Fits p s
  pub standing : IsStanding s

-- An instance without a record in this version stores what it does before the first scan.
abbrev pub AreTold : Version → List Instance → List Stored → Type 0
AreTold version instances blocks =
    (number : ℕ) (i : Instance) → slice_get instances number ≡ Some i → has_record version (new_block i.kind) ≡ false
    → slice_get blocks number ≡ Some (new_block i.kind)

-- The version tells all of the state: these are the records of it.
pub record HasRecords (p : Drawing) (s : Standing) (rows : List Fields) : Type 0 where
  pub version : Version
  pub told : AreTold version p.decls.instances s.held.kept.blocks
  pub same : rows ≡ state_records version p s
