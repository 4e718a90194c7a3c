-- The records of a csv text, and the text of records that need no quotes.
use Rattle.std.specs.Prelude.{if◌then◌else◌, ◌≡◌, ◌<◌, ◌++◌, ◌∷◌, ⊤, ℕ, Bool, false, List, [], Option, Some, None, bytes_eq, codes, flat_map, length}
use Rattle.std.specs.List.{list_any}
use Rattle.csv.specs.Reading.{default_config, records, strip_bom}
use Rattle.csv.specs.Writing.{default_writer, needs_byte}
use Rattle.io_text.specs.Left.{Fields}

-- the records that `csv` gives from a text
abbrev pub records_of : List ℕ → List Fields
records_of text = records default_config (strip_bom text)

-- the field of a bit: 1 for ON, 0 for OFF
abbrev pub bit_text : Bool → List ℕ
bit_text bit = if bit then codes "1" else codes "0"

-- the field is that of ON
abbrev pub is_on : Option (List ℕ) → Bool
is_on (Some field) = bytes_eq field (codes "1")
is_on None = false

-- fields with a comma before each
abbrev pub after_commas : Fields → List ℕ
after_commas fields = flat_map (λ f. codes "," ++ f) fields

-- the line of a record: its fields joined by commas, and a line end
abbrev pub line_text : Fields → List ℕ
line_text [] = codes "\n"
line_text (f ∷ fs) = f ++ (after_commas fs ++ codes "\n")

-- the lines of records, one after the other
abbrev pub lines_text : List Fields → List ℕ
lines_text records = flat_map line_text records

-- a field without comma, quote or line end
abbrev pub IsPlainField : List ℕ → Type 0
IsPlainField f = list_any (needs_byte default_writer) f ≡ false

-- fields that are written in a text as they are
unfoldable pub ArePlainFields : Fields → Type 0
ArePlainFields [] = ⊤
ArePlainFields (f ∷ fs) = IsPlainField f × ArePlainFields fs

-- a record whose line is no empty line
abbrev pub IsPlainRecord : Fields → Type 0
IsPlainRecord [] = ⊥
IsPlainRecord (f ∷ fs) = (0 < length f) × IsPlainField f × ArePlainFields fs

-- records that are written in a text line by line
unfoldable pub ArePlainRecords : List Fields → Type 0
ArePlainRecords [] = ⊤
ArePlainRecords (r ∷ rs) = IsPlainRecord r × ArePlainRecords rs
