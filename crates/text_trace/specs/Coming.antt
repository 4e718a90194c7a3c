-- Private to the simulation: what the source of its records has still to give.
use Rattle.std.specs.Prelude.{◌≡◌, ◌∷◌, ◌++◌, ◌+◌, ◌*◌, ◌<◌, ◌^◌, ⊤, ℕ, Bool, true, false, List, [], Option, Some, None, IfSome, IsSome, drop, length, map}
use Rattle.csv.specs.Records.{fields_of}
use Rattle.io_text.specs.Left.{Fields, IsPlain, Left}
use Rattle.text_trace.specs.declared.filling.Filling.{Filling}
use Rattle.text_trace.specs.declared.filling.Taken.{Taken}
use Rattle.text_trace.specs.Filled.{Numbered, count_between, filled_after, moment_in, numbered, repeated}
use Rattle.text_trace.specs.Room.{bits_of}
use Rattle.text_trace.specs.Simulation.{IsNoRow}
use Rattle.text_trace.specs.Stimulus.{IsRow}

-- What is kept of the records is right: the moments are those of the record before and of the one that is read ahead, and each record in
-- between is before a moment of 64 bits.
pub record IsSound (columns : List ℕ) (f : Filling) : Type 0 where
  pub plain : IsPlain f.records
  pub last : f.from ≡ moment_in (length columns) (fields_of f.last)
  pub next : f.is_ahead ≡ true → f.to ≡ moment_in (length columns) (fields_of f.ahead)
  pub small : f.is_ahead ≡ true → f.moment + f.every * f.left < 2 ^ 64
  pub good : f.is_ahead ≡ true → 0 < f.left → IsSome f.from

-- Nothing was taken yet.
pub record IsFresh (f : Filling) : Type 0 where
  pub plain : IsPlain f.records
  pub none : f.from ≡ None
  pub unread : f.is_ahead ≡ false
  pub first : f.number ≡ 2

-- the records that come, where the reader has these left
abbrev pub coming : Bool → List ℕ → Filling → List Fields → List Numbered
coming true columns f rows =
    map (numbered f.number) (repeated f.every (drop 1 (fields_of f.last)) f.moment f.left)
    ++ (numbered f.number (fields_of f.ahead) ∷ filled_after f.every (length columns) (f.number + 1) (fields_of f.ahead) rows)
coming false columns f rows = filled_after f.every (length columns) f.number (fields_of f.last) rows

-- These records come.
abbrev pub Comes : List ℕ → Filling → List Numbered → Type 0
Comes columns f all = (rows : List Fields) × Left f.records rows × (all ≡ coming f.is_ahead columns f rows)

-- The fields are those of a record with this moment and the bits of a row; without a moment they aren't good.
abbrev pub Gives : List ℕ → Option ℕ → Fields → Fields → Type 0
Gives columns (Some moment) row fields = IsRow columns fields moment (bits_of row) × (length row ≡ length columns + 1)
Gives columns None row fields = IsNoRow columns fields

-- The first of the records that come was taken, or there is none.
abbrev pub Takes : List ℕ → List Numbered → Option Taken → Filling → Type 0
Takes columns [] taken f = taken ≡ None
Takes columns (r ∷ all) None f = ⊥
Takes columns (r ∷ all) (Some taken) f = (taken.number ≡ r.number) × Gives columns taken.moment (fields_of f.last) r.fields × Comes columns f all

-- After a read these records come still, or there is none.
abbrev pub StillComes : List ℕ → Bool → Filling → List Numbered → Type 0
StillComes columns true f all = Comes columns f all
StillComes columns false f all = all ≡ []

-- The row whose bits are those of a good record has as many as there are columns.
abbrev pub IsWide : List ℕ → Option Taken → Filling → Type 0
IsWide columns None f = ⊤
IsWide columns (Some taken) f = IfSome taken.moment (λ m. length (fields_of f.last) ≡ length columns + 1)

-- how many records are between two of these moments, where both are there
abbrev pub count_in : ℕ → Option ℕ → Option ℕ → ℕ
count_in every (Some from) (Some to) = count_between every from to
count_in every (Some from) None = 0
count_in every None to = 0
