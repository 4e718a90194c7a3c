-- The records that a csv reader over a text in memory has left.
use Rattle.std.specs.Prelude.{◌≡◌, ℕ, List, [], ◌∷◌, Some, Bool, true, false}
use Rattle.std.specs.Borrow.{Bor}
use Rattle.csv.specs.Reading.{AreRecords, Ready, default_config, is_flexible, reader_config, reader_state, reader_trim, source_of, strip_bom}
use Rattle.csv.specs.declared.reader.Reader.{Reader}
use Rattle.csv.specs.declared.reader.Trim.TheVariants as trim
use Rattle.csv.specs.declared.parser.State.TheVariants as st

abbrev pub Fields : Type 0
Fields = List (List ℕ)

-- a reader that gives the records as they are, with any number of fields
abbrev pub IsPlain : Reader (Bor (List ℕ)) → Type 0
IsPlain r = (reader_trim r ≡ trim.None) × Ready r × (reader_config r ≡ default_config) × (is_flexible r ≡ true)

-- these records are left
abbrev pub Left : Reader (Bor (List ℕ)) → List Fields → Type 0
Left r rows = (y : List ℕ) × (source_of (λ s. Some s.now) r ≡ Some y) × AreRecords default_config (reader_state r) y rows

-- these are the records of a text
abbrev pub AreRecordsOf : List ℕ → List Fields → Type 0
AreRecordsOf text rows = AreRecords default_config st.StartRecord (strip_bom text) rows

-- a read takes the first of these records, or there was none
abbrev pub TakesFirst : List Fields → Bool → Fields → Reader (Bor (List ℕ)) → Type 0
TakesFirst [] found fields new = found ≡ false
TakesFirst (r ∷ rows) found fields new = (found ≡ true) × (fields ≡ r) × Left new rows
