-- The records that a rhythm puts between those of the brief text are the rows of the scans that it leaves out.
use Rattle.std.proofs.Common.{◌≡◌, ◌∙◌, ◌+◌, ◌-◌, ◌*◌, ◌/◌, ◌<◌, ◌^◌, ◌++◌, ◌∷◌, ◌&&◌, ◌==◌, [], ℕ, zero, suc, Bool, true, false, List, Some, None, append_assoc, ap, arith, bytes_eq, codes, cond, decimal, drop, filter, length, map, refl, subst, sym}
use Rattle.std.specs.Prelude.{if◌then◌else◌, nat_lt}
use Rattle.std.specs.Cmp.{booleans_Decides}
use Rattle.std.specs.Cmp.Lexicographic.{pointwise_decides, same_text}
use Rattle.std.specs.List.{All}
use Rattle.std.specs.Str.Parse.{AllDigits, digits_value}
use Rattle.std.proofs.lemmas.Bool.{and_parts, eq-eqb, lt-ltb, ltb-true}
use Rattle.std.proofs.lemmas.Fmt.{decimal_is_IsNumeral}
use Rattle.std.proofs.lemmas.List.{length-map, map-append}
use Rattle.std.proofs.lemmas.List.Elements.{All-head, All-tail}
use Rattle.std.proofs.lemmas.List.Sums.{length-filter}
use Rattle.std.proofs.lemmas.Nat.{div-mul-add}
use Rattle.std.proofs.lemmas.Str.Parse.{digit_from_value}
use Rattle.diagram_declarations.specs.Decls.{is_input}
use Rattle.diagram_program.specs.Program.{Drawing}
use Rattle.io_text.specs.Left.{Fields}
use Rattle.io_text.specs.Text.{bit_text}
use Rattle.reach_runs.specs.Asking.{AreEvery}
use Rattle.scan_cycle.specs.Runs.{OneScan}
use Rattle.text_runs.specs.Laws.{IsScanOf, input_count}
use Rattle.text_runs.specs.RunText.{brief_after, brief_scans, gives_same, run_header, scan_row}
use Rattle.text_trace.specs.Filled.{Numbered, all_fields, between, count_between, filled, filled_after, held_between, is_number, moment_in, numbered, repeated}
use Rattle.text_trace.specs.Stimulus.{are_bits, is_bit}

-- ---- the moment of a record

same_bytes : (xs : List ℕ) → bytes_eq xs xs ≡ true
same_bytes [] = refl
same_bytes (x ∷ xs) = grind (arith, same_bytes xs)

number_is : (m : ℕ) → m < 2 ^ 64 → is_number (decimal m) ≡ true
number_is m small =
    let value = (decimal_is_IsNumeral m small).1 in
    rw (value, same_bytes (decimal m), lt-ltb m (2 ^ 64) small) refl

bit_is_bit : (b : Bool) → is_bit (Some (bit_text b)) ≡ true
bit_is_bit true = refl
bit_is_bit false = refl

texts_are_bits : (bits : List Bool) → are_bits (map bit_text bits) ≡ true
texts_are_bits [] = refl
texts_are_bits (b ∷ bits) = rw (bit_is_bit b) (texts_are_bits bits)

test_true : (a b c : Bool) (m : ℕ) → a ≡ true → b ≡ true → c ≡ true → (if a && b && c then Some m else None) ≡ Some m
test_true a b c m e f g = rw (e, f, g) refl

test_false : (a b c : Bool) (m : ℕ) → c ≡ false → (if a && b && c then Some m else None) ≡ None
test_false true true c m e = rw e refl
test_false true false c m e = refl
test_false false b c m e = refl

pub moment_of_row : (p : Drawing) (scan : OneScan) → IsScanOf p scan → moment_in (input_count p) (scan_row scan) ≡ Some scan.moment
moment_of_row p scan h =
    let bits = map bit_text scan.inputs in
    test_true (length bits == input_count p) (are_bits bits) (is_number (decimal scan.moment)) (digits_value 10 (decimal scan.moment))
    (eq-eqb (length bits) (input_count p) (length-map scan.inputs bit_text ∙ h.0)) (texts_are_bits scan.inputs) (number_is scan.moment h.1)
    ∙ ap (λ m. Some m) (decimal_is_IsNumeral scan.moment h.1).1

-- a word that begins with a letter; 109 is the m
no_number : (word : List ℕ) (b : Bool) → is_number (109 ∷ word) ≡ b → b ≡ false
no_number word false e = refl
no_number word true e =
    let value = digits_value 10 (109 ∷ word) in
    let parts = and_parts (bytes_eq (109 ∷ word) (decimal value)) (nat_lt value (2 ^ 64)) e in
    let same : 109 ∷ word ≡ decimal value = same_text (109 ∷ word) (decimal value) (sym parts.0) in
    let digits = (decimal_is_IsNumeral value (ltb-true value (2 ^ 64) parts.1)).0.1 in
    let first : AllDigits 10 (109 ∷ word) = subst (AllDigits 10) (sym same) digits in
    let bounds = digit_from_value 109 first.0 in
    absurd (omega (arith, bounds))

no_moment : (p : Drawing) (width : ℕ) → moment_in width (run_header p) ≡ None
no_moment p width =
    let names = map (λ v. v.name) (filter is_input p.decls.vars) in
    test_false (length names == width) (are_bits names) (is_number (codes "moment")) (digits_value 10 (codes "moment")) (no_number (codes "oment") (is_number (codes "moment")) refl)

-- ---- the records between two rows

count_is : (e from k : ℕ) → count_between (suc e) from (from + suc e * suc k) ≡ k
count_is e from k =
    let product : suc e * suc k ≡ k * suc e + suc e = grind arith in
    let rest : from + suc e * suc k - from - 1 ≡ k * suc e + e = omega (arith, product) in
    ap (λ n. n / suc e) rest ∙ div-mul-add k (suc e) e (omega arith)

between_rows : (p : Drawing) (e k : ℕ) (told scan : OneScan) → IsScanOf p told → IsScanOf p scan → scan.moment ≡ told.moment + suc e * suc k
    → between (suc e) (input_count p) (scan_row told) (scan_row scan) ≡ repeated (suc e) (map bit_text told.inputs) told.moment k
between_rows p e k told scan h g at =
    let bits = map bit_text told.inputs in
    ap (λ m. held_between (suc e) bits m (moment_in (input_count p) (scan_row scan))) (moment_of_row p told h)
    ∙ ap (held_between (suc e) bits (Some told.moment)) (moment_of_row p scan g)
    ∙ ap (λ to. repeated (suc e) bits told.moment (count_between (suc e) told.moment to)) at
    ∙ ap (repeated (suc e) bits told.moment) (count_is e told.moment k)

-- one record more
repeated_next : (every : ℕ) (bits : List (List ℕ)) (moment k : ℕ)
    → repeated every bits moment (suc k) ≡ repeated every bits moment k ++ ((decimal (moment + every * suc k) ∷ bits) ∷ [])
repeated_next every bits moment zero = let same : moment + every ≡ moment + every * 1 = grind arith in ap (λ m. (decimal m ∷ bits) ∷ []) same
repeated_next every bits moment (suc k) =
    let same : moment + every + every * suc k ≡ moment + every * suc (suc k) = grind arith in
    ap (λ l. (decimal (moment + every) ∷ bits) ∷ l)
    (repeated_next every bits (moment + every) k ∙ ap (λ m. repeated every bits (moment + every) k ++ ((decimal m ∷ bits) ∷ [])) same)

-- ---- all records

unnumbered : (number : ℕ) (rows : List Fields) → all_fields (map (numbered number) rows) ≡ rows
unnumbered number [] = refl
unnumbered number (row ∷ rows) = ap (λ l. row ∷ l) (unnumbered number rows)

next_row : (every width number : ℕ) (last next : Fields) (rows : List Fields)
    → all_fields (filled_after every width number last (next ∷ rows))
    ≡ between every width last next ++ (next ∷ all_fields (filled_after every width (number + 1) next rows))
next_row every width number last next rows =
    let behind = filled_after every width (number + 1) next rows in
    map-append (λ (r : Numbered). r.fields) (map (numbered number) (between every width last next)) (numbered number next ∷ behind)
    ∙ ap (λ l. l ++ (next ∷ all_fields behind)) (unnumbered number (between every width last next))

-- The last row is that of a scan so many scans ago, and all since then gave the same inputs.
record IsHeld (p : Drawing) (e k : ℕ) (told before : OneScan) (rest : List OneScan) : Type 0 where
  pub row : IsScanOf p told
  pub same : before.inputs ≡ told.inputs
  pub every : AreEvery (suc e) (told.moment + suc e * suc k) rest
  pub all : All (IsScanOf p) rest
  pub last : rest ≡ [] → k ≡ 0

-- What comes after the last row is then the records of those scans, and the rows of the others.
abbrev Fills : Drawing → ℕ → ℕ → OneScan → OneScan → List OneScan → Type 0
Fills p e k told before rest =
    (number : ℕ) → all_fields (filled_after (suc e) (input_count p) number (scan_row told) (map scan_row (brief_after before rest)))
    ≡ repeated (suc e) (map bit_text told.inputs) told.moment k ++ map scan_row rest

-- a scan that has a row
next_held : (p : Drawing) (e k : ℕ) (told before scan : OneScan) (more : List OneScan) → IsHeld p e k told before (scan ∷ more) → IsHeld p e 0 scan scan more
next_held p e k told before scan more h =
    let next : told.moment + suc e * suc k + suc e ≡ scan.moment + suc e * 1 = let at = h.every.0 in grind (arith, at) in
    record {
      row = All-head (IsScanOf p) scan more h.all;
      same = refl;
      every = subst (λ from. AreEvery (suc e) from more) next h.every.1;
      all = All-tail (IsScanOf p) scan more h.all;
      last = λ none. refl;
    }

row_told : (p : Drawing) (e k number : ℕ) (told before scan : OneScan) (more : List OneScan) → IsHeld p e k told before (scan ∷ more) → Fills p e 0 scan scan more
    → all_fields (filled_after (suc e) (input_count p) number (scan_row told) (scan_row scan ∷ map scan_row (brief_after scan more)))
    ≡ repeated (suc e) (map bit_text told.inputs) told.moment k ++ (scan_row scan ∷ map scan_row more)
row_told p e k number told before scan more h fills =
    let rows = map scan_row (brief_after scan more) in
    next_row (suc e) (input_count p) number (scan_row told) (scan_row scan) rows
    ∙ ap (λ l. l ++ (scan_row scan ∷ all_fields (filled_after (suc e) (input_count p) (number + 1) (scan_row scan) rows)))
    (between_rows p e k told scan h.row (All-head (IsScanOf p) scan more h.all) h.every.0)
    ∙ ap (λ l. repeated (suc e) (map bit_text told.inputs) told.moment k ++ (scan_row scan ∷ l)) (fills (number + 1))

-- one that has none
still_held : (p : Drawing) (e k : ℕ) (told before scan next : OneScan) (more : List OneScan) → IsHeld p e k told before (scan ∷ next ∷ more) → before.inputs ≡ scan.inputs
    → IsHeld p e (suc k) told scan (next ∷ more)
still_held p e k told before scan next more h given =
    let later : told.moment + suc e * suc k + suc e ≡ told.moment + suc e * suc (suc k) = grind arith in
    record {
      row = h.row;
      same = sym given ∙ h.same;
      every = subst (λ from. AreEvery (suc e) from (next ∷ more)) later h.every.1;
      all = All-tail (IsScanOf p) scan (next ∷ more) h.all;
      last = λ none. cc;
    }

row_held : (p : Drawing) (e k number : ℕ) (told before scan next : OneScan) (more : List OneScan) → IsHeld p e k told before (scan ∷ next ∷ more) → before.inputs ≡ scan.inputs
    → Fills p e (suc k) told scan (next ∷ more)
    → all_fields (filled_after (suc e) (input_count p) number (scan_row told) (map scan_row (brief_after scan (next ∷ more))))
    ≡ repeated (suc e) (map bit_text told.inputs) told.moment k ++ (scan_row scan ∷ map scan_row (next ∷ more))
row_held p e k number told before scan next more h given fills =
    let bits = map bit_text told.inputs in
    let rest = map scan_row (next ∷ more) in
    let row : decimal (told.moment + suc e * suc k) ∷ bits ≡ scan_row scan =
    ap (λ m. decimal m ∷ bits) (sym h.every.0) ∙ ap (λ b. decimal scan.moment ∷ map bit_text b) (sym h.same ∙ given) in
    fills number
    ∙ ap (λ l. l ++ rest) (repeated_next (suc e) bits told.moment k)
    ∙ append_assoc (repeated (suc e) bits told.moment k) ((decimal (told.moment + suc e * suc k) ∷ bits) ∷ []) rest
    ∙ ap (λ r. repeated (suc e) bits told.moment k ++ (r ∷ rest)) row

by_inputs : (p : Drawing) (e k number : ℕ) (told before scan next : OneScan) (more : List OneScan) → IsHeld p e k told before (scan ∷ next ∷ more)
    → Fills p e 0 scan scan (next ∷ more) → (before.inputs ≡ scan.inputs → Fills p e (suc k) told scan (next ∷ more))
    → (b : Bool) → gives_same before scan ≡ b
    → all_fields (filled_after (suc e) (input_count p) number (scan_row told)
    (map scan_row (cond b (brief_after scan (next ∷ more)) (scan ∷ brief_after scan (next ∷ more)))))
    ≡ repeated (suc e) (map bit_text told.inputs) told.moment k ++ (scan_row scan ∷ map scan_row (next ∷ more))
by_inputs p e k number told before scan next more h fresh held true same =
    let given = (pointwise_decides booleans_Decides before.inputs scan.inputs).0 same in
    row_held p e k number told before scan next more h given (held given)
by_inputs p e k number told before scan next more h fresh held false other = row_told p e k number told before scan (next ∷ more) h fresh

after_rows : (p : Drawing) (e k : ℕ) (told before : OneScan) (rest : List OneScan) → IsHeld p e k told before rest → Fills p e k told before rest
after_rows p e k told before [] h number = rw (h.last refl) refl
after_rows p e k told before (scan ∷ []) h number =
    row_told p e k number told before scan [] h (after_rows p e 0 scan scan [] (next_held p e k told before scan [] h))
after_rows p e k told before (scan ∷ next ∷ more) h number =
    by_inputs p e k number told before scan next more h
    (after_rows p e 0 scan scan (next ∷ more) (next_held p e k told before scan (next ∷ more) h))
    (λ given. after_rows p e (suc k) told scan (next ∷ more) (still_held p e k told before scan next more h given))
    (gives_same before scan) refl

header_width : (p : Drawing) → length (run_header p) - 1 ≡ input_count p
header_width p =
    let names = length-map (filter is_input p.decls.vars) (λ v. v.name) in
    let size = length-filter is_input p.decls.vars in
    omega (arith, names, size)

pub brief_filled : (p : Drawing) (e from : ℕ) (scans : List OneScan) → AreEvery (suc e) from scans → All (IsScanOf p) scans
    → all_fields (filled (suc e) (run_header p ∷ map scan_row (brief_scans scans))) ≡ run_header p ∷ map scan_row scans
brief_filled p e from [] h g = refl
brief_filled p e from (first ∷ more) h g =
    let width = input_count p in
    let header = run_header p in
    let rows = map scan_row (brief_after first more) in
    let next : from + suc e ≡ first.moment + suc e * 1 = let at = h.0 in grind (arith, at) in
    let held : IsHeld p e 0 first first more = record {
      row = All-head (IsScanOf p) first more g;
      same = refl;
      every = subst (λ m. AreEvery (suc e) m more) next h.1;
      all = All-tail (IsScanOf p) first more g;
      last = λ e. refl;
    } in
    ap (λ w. header ∷ all_fields (filled_after (suc e) w 2 header (scan_row first ∷ rows))) (header_width p)
    ∙ ap (λ l. header ∷ l)
    (next_row (suc e) width 2 header (scan_row first) rows
    ∙ ap (λ m. held_between (suc e) (drop 1 header) m (moment_in width (scan_row first)) ++ (scan_row first ∷ all_fields (filled_after (suc e) width 3 (scan_row first) rows)))
    (no_moment p width)
    ∙ ap (λ l. scan_row first ∷ l) (after_rows p e 0 first first more held 3))
