-- Private to the comparison: what one step of it reads.
use Rattle.std.specs.Prelude.{◌≡◌, ◌≢◌, ◌++◌, ◌∷◌, ℕ, Bool, true, false, List, [], Option, None, Some, length, slice_get}
use Rattle.csv.specs.Records.{fields_of}
use Rattle.io_text.specs.Left.{Fields, IsPlain, Left}
use Rattle.text_expected.specs.declared.comparing.Both.{Both}
use Rattle.text_expected.specs.declared.comparing.Step.{Step}
use Rattle.text_expected.specs.declared.comparing.Step.TheVariants as step

-- the fields that were read, where there was a record
abbrev pub taken : Bool → Fields → Option Fields
taken true fields = Some fields
taken false fields = None

abbrev pub ArePlain : Both → Type 0
ArePlain b = IsPlain b.expected × IsPlain b.found

-- Two records that both texts have are the same, or not.
abbrev pub IsStepOf : Step → Fields → Fields → Type 0
IsStepOf step.Same f g = f ≡ g
IsStepOf step.Ended f g = ⊥
IsStepOf (step.Differs one other) f g = (one ≡ true) × (other ≡ true) × (f ≢ g)

-- Of the records that were left of both texts the first ones were read: they are the same; or there are none; or they are not the same.
abbrev pub Steps : Step → List Fields → List Fields → Both → Type 0
Steps step.Same xs ys b =
    (x : Fields) × (more : List Fields) × (rest : List Fields) × (xs ≡ x ∷ more) × (ys ≡ x ∷ rest) × Left b.expected more × Left b.found rest
Steps step.Ended xs ys b = (xs ≡ []) × (ys ≡ [])
Steps (step.Differs one other) xs ys b =
    (slice_get xs 0 ≢ slice_get ys 0) × (slice_get xs 0 ≡ taken one (fields_of b.expected_row)) × (slice_get ys 0 ≡ taken other (fields_of b.found_row))

-- So many records were the same, and these are left.
abbrev pub IsAt : List Fields → List Fields → ℕ → Both → Type 0
IsAt all every n b =
    (front : List Fields) × (xs : List Fields) × (ys : List Fields) × (all ≡ front ++ xs) × (every ≡ front ++ ys) × (length front ≡ n) × Left b.expected xs × Left b.found ys
