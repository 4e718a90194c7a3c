-- Plain records are read back as they were written.
use Rattle.std.proofs.Common.{◌≡◌, ◌<◌, ◌==◌, ◌++◌, ◌∷◌, [], ℕ, List, Some, refl, arith, append_assoc, false, length}
use Rattle.std.proofs.lemmas.Bool.{ne_eqb}
use Rattle.csv.specs.Machine.{next_record}
use Rattle.csv.specs.Reading.{AreRecords, Reached, default_config, strip_bom}
use Rattle.csv.specs.Writing.{default_writer, field_text, fields_text, is_blank, row_text}
use Rattle.csv.specs.declared.parser.State.TheVariants as st
use Rattle.csv.proofs.RoundTrip.{read-write-many, read-write-one}
use Rattle.io_text.specs.Left.{Fields}
use Rattle.io_text.specs.Text.{ArePlainFields, ArePlainRecords, IsPlainField, IsPlainRecord, after_commas, line_text, lines_text, records_of}
use Rattle.io_text.proofs.Whole.{is_records_of}

-- csv's writer writes a plain field as it stands
plain_field : (f : List ℕ) → IsPlainField f → field_text default_writer f ≡ f
plain_field f h = rw h refl

plain_fields : (fs : Fields) → ArePlainFields fs → fields_text default_writer fs ≡ after_commas fs
unfolding ArePlainFields fields_text
plain_fields [] h = refl
plain_fields (f ∷ fs) h = rw (plain_field f h.0, plain_fields fs h.1) refl

not_zero : (f : List ℕ) → 0 < length f → (length f == 0) ≡ false
not_zero [] h = absurd (omega (arith, h))
not_zero (b ∷ f) h = ne_eqb (length (b ∷ f)) 0 (λ e. cc e)

-- the line of a plain record is what csv's writer writes
plain_line : (r : Fields) → IsPlainRecord r → row_text default_writer r ≡ line_text r
unfolding ArePlainFields fields_text is_blank
plain_line [] h = absurd h
plain_line (f ∷ []) h = rw (plain_field f h.1, not_zero f h.0) (append_assoc f [] (10 ∷ []))
plain_line (f ∷ g ∷ fs) h = rw (plain_field f h.1, plain_field g h.2.0, plain_fields fs h.2.1) (append_assoc f (44 ∷ (g ++ after_commas fs)) (10 ∷ []))

read_line : (r : Fields) (tail : List ℕ) → IsPlainRecord r → next_record default_config st.StartRecord [] [] (line_text r ++ tail) ≡ Some (r, st.StartRecord, tail)
read_line [] tail h = absurd h
read_line (f ∷ []) tail h = rw (← plain_line (f ∷ []) h) (read-write-one f tail)
read_line (f ∷ g ∷ fs) tail h = rw (← plain_line (f ∷ g ∷ fs) h) (read-write-many f g fs tail)

-- plain records, written line by line, are the records of that text
pub lines_are : (rows : List Fields) → ArePlainRecords rows → AreRecords default_config st.StartRecord (lines_text rows) rows
unfolding ArePlainRecords Reached next_record
lines_are [] h = (st.StartRecord, [], (refl, refl), refl)
lines_are (r ∷ rows) h =
    let more = lines_are rows h.1 in
    (more.0, more.1, ((r, st.StartRecord, lines_text rows), read_line r (lines_text rows) h.0, refl, more.2), more.3)

pub records_of_lines : (rows : List Fields) → ArePlainRecords rows → strip_bom (lines_text rows) ≡ lines_text rows → records_of (lines_text rows) ≡ rows
records_of_lines rows h e = is_records_of (lines_text rows) rows (rw e (lines_are rows h))
