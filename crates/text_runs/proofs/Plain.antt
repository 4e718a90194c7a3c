-- The records of a run stand in a text as they are: their fields hold no comma, quote or line end.
use Rattle.std.proofs.Common.{◌≡◌, ◌<◌, ◌≤◌, ◌==◌, ◌||◌, ◌&&◌, ◌∙◌, ◌^◌, ◌∷◌, [], ℕ, Bool, true, false, List, refl, sym, ap, arith, decimal, map, suc, cond, filter}
use Rattle.std.specs.List.{All, list_all}
use Rattle.std.specs.Char.{is_ascii_alphabetic}
use Rattle.std.specs.Str.Parse.{AllDigits}
use Rattle.std.proofs.lemmas.Bool.{ne_eqb, and_parts}
use Rattle.std.proofs.lemmas.Fmt.{decimal_is_IsNumeral}
use Rattle.std.proofs.lemmas.List.Elements.{All-head, All-tail}
use Rattle.std.proofs.lemmas.Str.Parse.{digit_from_value}
use Rattle.csv.specs.Reading.{strip_bom}
use Rattle.csv.specs.Writing.{default_writer, needs_byte}
use Rattle.io_text.specs.Text.{ArePlainFields, ArePlainRecords, IsPlainField, IsPlainRecord, bit_text, records_of}
use Rattle.io_text.proofs.Plain.{records_of_lines}
use Rattle.diagram_declarations.specs.Decls.{is_input}
use Rattle.diagram_declarations.specs.Name.{is_name, is_name_byte}
use Rattle.diagram_declarations.specs.declared.decls.Var.{Var}
use Rattle.diagram_program.specs.Program.{Drawing}
use Rattle.scan_cycle.specs.Runs.{OneScan}
use Rattle.text_runs.specs.Laws.{AreNamed, IsScanOf}
use Rattle.text_runs.specs.RunText.{run_header, run_text, scan_row}

-- ---- one field

-- 44 is the comma, 34 the quote; 13 and 10 end a line
plain_byte : (test : ℕ → Bool) → test 44 ≡ false → test 34 ≡ false → test 13 ≡ false → test 10 ≡ false → (b : ℕ) → test b ≡ true → needs_byte default_writer b ≡ false
plain_byte test comma quote first second b h =
    let other : (k : ℕ) → test k ≡ false → (b == k) ≡ false = λ k no. ne_eqb b k (λ e. let bad : true ≡ false = sym h ∙ ap test e ∙ no in cc) in
    rw (other 44 comma, other 34 quote, other 13 first, other 10 second) refl

bytes_plain : (bs : List ℕ) → list_all is_name_byte bs ≡ true → IsPlainField bs
bytes_plain [] h = refl
bytes_plain (b ∷ bs) h =
    let q = and_parts (is_name_byte b) (list_all is_name_byte bs) h in
    rw (plain_byte is_name_byte refl refl refl refl b q.0) (bytes_plain bs q.1)

name_plain : (name : List ℕ) → is_name name ≡ true → IsPlainField name
name_plain [] h = refl
name_plain (b ∷ bs) h =
    let form = and_parts ((is_ascii_alphabetic b || b == 95) && list_all is_name_byte bs) _ h in
    let q = and_parts (is_ascii_alphabetic b || b == 95) (list_all is_name_byte bs) form.0 in
    rw (plain_byte (λ c. is_ascii_alphabetic c || c == 95) refl refl refl refl b q.0) (bytes_plain bs q.1)

digit_plain : (c : ℕ) → 48 ≤ c → c ≤ 57 → needs_byte default_writer c ≡ false
digit_plain c a b = rw (ne_eqb c 44 (omega arith), ne_eqb c 34 (omega arith), ne_eqb c 13 (omega arith), ne_eqb c 10 (omega arith)) refl

digits_plain : (ds : List ℕ) → AllDigits 10 ds → IsPlainField ds
digits_plain [] h = refl
digits_plain (c ∷ cs) h =
    let d = digit_from_value c h.0 in
    rw (digit_plain c (omega (arith, d)) (omega (arith, d))) (digits_plain cs h.1)

bits_plain : (bits : List Bool) → ArePlainFields (map bit_text bits)
unfolding ArePlainFields
bits_plain [] = tt
bits_plain (true ∷ bits) = (refl, bits_plain bits)
bits_plain (false ∷ bits) = (refl, bits_plain bits)

-- ---- the header

names_plain : (vars : List Var) → AreNamed vars → ArePlainFields (map (λ v. v.name) (filter is_input vars))
unfolding ArePlainFields
names_plain [] h = tt
names_plain (v ∷ vars) h = by_kind (is_input v) (name_plain v.name (h 0 v refl)) (names_plain vars (λ number w there. h (suc number) w there))
  where
    by_kind : (b : Bool) → IsPlainField v.name → ArePlainFields (map (λ w. w.name) (filter is_input vars))
        → ArePlainFields (map (λ w. w.name) (cond b (v ∷ filter is_input vars) (filter is_input vars)))
    by_kind true first more = (first, more)
    by_kind false first more = more

header_plain : (p : Drawing) → AreNamed p.decls.vars → IsPlainRecord (run_header p)
header_plain p h = (omega arith, refl, names_plain p.decls.vars h)

-- ---- the rows

row_plain : (scan : OneScan) → scan.moment < 2 ^ 64 → IsPlainRecord (scan_row scan)
row_plain scan h =
    let number = (decimal_is_IsNumeral scan.moment h).0 in
    (number.0, digits_plain (decimal scan.moment) number.1, bits_plain scan.inputs)

rows_plain : (p : Drawing) (scans : List OneScan) → All (IsScanOf p) scans → ArePlainRecords (map scan_row scans)
unfolding ArePlainRecords
rows_plain p [] h = tt
rows_plain p (scan ∷ scans) h = (row_plain scan (All-head (IsScanOf p) scan scans h).1, rows_plain p scans (All-tail (IsScanOf p) scan scans h))

-- ---- the text

pub run_plain : (p : Drawing) (scans : List OneScan) → AreNamed p.decls.vars → All (IsScanOf p) scans → ArePlainRecords (run_header p ∷ map scan_row scans)
unfolding ArePlainRecords
run_plain p scans named h = (header_plain p named, rows_plain p scans h)

pub run_records : (p : Drawing) (scans : List OneScan) → AreNamed p.decls.vars → All (IsScanOf p) scans → records_of (run_text p scans) ≡ run_header p ∷ map scan_row scans
unfolding strip_bom
run_records p scans named h = records_of_lines (run_header p ∷ map scan_row scans) (run_plain p scans named h) refl
