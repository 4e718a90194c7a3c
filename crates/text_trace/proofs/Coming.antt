-- What the source of the records gives.
use Rattle.std.proofs.Common.{◌≡◌, ◌∙◌, ◌+◌, ◌*◌, ◌-◌, ◌<◌, ◌^◌, ◌++◌, ◌∷◌, ◌&&◌, ◌==◌, [], ℕ, suc, zero, Bool, true, false, List, Option, Some, None, refl, sym, ap, subst, arith, decimal, drop, length, map, bytes_eq, unwrap_or}
use Rattle.std.specs.Prelude.{IfSome, IsSome, if◌then◌else◌, nat_lt}
use Rattle.std.specs.Borrow.{Bor}
use Rattle.std.specs.Cmp.Lexicographic.{same_text}
use Rattle.std.specs.Str.Parse.{digits_value}
use Rattle.std.proofs.lemmas.Fmt.{decimal_is_IsNumeral}
use Rattle.std.proofs.lemmas.List.{length-map}
use Rattle.std.proofs.lemmas.Bool.{lt-ltb, ltb-true, eq-eqb, eqb-true, and_parts}
use Rattle.std.proofs.lemmas.Option.{same_Some}
use Rattle.csv.specs.Records.{fields_of}
use Rattle.csv.specs.declared.reader.Reader.{Reader}
use Rattle.io_text.specs.Left.{Fields, Left, TakesFirst}
use Rattle.io_text.specs.Text.{bit_text}
use Rattle.text_trace.specs.declared.filling.Filling.{Filling}
use Rattle.text_trace.specs.declared.filling.Taken.{Taken}
use Rattle.text_trace.specs.Coming.{Comes, Gives, StillComes, Takes, count_in}
use Rattle.text_trace.specs.Filled.{Numbered, between, filled_after, held_between, is_number, moment_in, numbered, repeated}
use Rattle.text_trace.specs.Room.{bits_of}
use Rattle.text_trace.specs.Simulation.{IsNoRow}
use Rattle.text_trace.specs.Stimulus.{IsRow, are_bits}
use Rattle.text_trace.proofs.Bits.{bits_same, texts_are_bits}

-- ---- the moment of a record

same_bytes : (xs : List ℕ) → bytes_eq xs xs ≡ true
same_bytes [] = refl
same_bytes (x ∷ xs) = grind (arith, same_bytes xs)

number_is : (m : ℕ) → m < 2 ^ 64 → is_number (decimal m) ≡ true
number_is m small =
    let value = (decimal_is_IsNumeral m small).1 in
    rw (value, same_bytes (decimal m), lt-ltb m (2 ^ 64) small) refl

test_true : (a b c : Bool) (m : ℕ) → a ≡ true → b ≡ true → c ≡ true → (if a && b && c then Some m else None) ≡ Some m
test_true a b c m e f g = rw (e, f, g) refl

tests_of : (a b c : Bool) (m n : ℕ) → (if a && b && c then Some m else None) ≡ Some n → (a ≡ true) × (b ≡ true) × (c ≡ true) × (m ≡ n)
tests_of true true true m n e = (refl, refl, refl, same_Some _ _ e)
tests_of _ _ _ m n e = cc

pub moment_row : (columns : List ℕ) (fs : Fields) (m : ℕ) (bits : List Bool) → IsRow columns fs m bits → moment_in (length columns) fs ≡ Some m
moment_row columns fs m bits h =
    let value = (decimal_is_IsNumeral m h.small).1 in
    let there : moment_in (length columns) (decimal m ∷ map bit_text bits) ≡ Some (digits_value 10 (decimal m)) =
    test_true (length (map bit_text bits) == length columns) (are_bits (map bit_text bits)) (is_number (decimal m)) (digits_value 10 (decimal m))
    (eq-eqb (length (map bit_text bits)) (length columns) (length-map bits bit_text ∙ h.count)) (texts_are_bits bits) (number_is m h.small) in
    ap (moment_in (length columns)) h.same ∙ there ∙ ap (λ n. Some n) value

pub row_of_moment : (columns : List ℕ) (fs : Fields) (m : ℕ) → moment_in (length columns) fs ≡ Some m → IsRow columns fs m (bits_of fs)
row_of_moment columns [] m e = cc
row_of_moment columns (f ∷ fs) m e =
    let parts = tests_of (length fs == length columns) (are_bits fs) (is_number f) (digits_value 10 f) m e in
    let number = and_parts (bytes_eq f (decimal (digits_value 10 f))) (nat_lt (digits_value 10 f) (2 ^ 64)) parts.2 in
    let text : f ≡ decimal m = same_text f (decimal (digits_value 10 f)) (sym number.0) ∙ ap decimal parts.3 in
    let small : digits_value 10 f < 2 ^ 64 = ltb-true (digits_value 10 f) (2 ^ 64) number.1 in
    record {
      same = ap (λ x. x ∷ fs) text ∙ ap (λ l. decimal m ∷ l) (sym (bits_same fs parts.1));
      count = length-map fs (λ g. _) ∙ eqb-true (length fs) (length columns) parts.0;
      small = subst (λ n. n < 2 ^ 64) parts.3 small;
    }

pub read_moment : (o : Option ℕ) (columns : List ℕ) (fs : Fields) → IfSome o (λ m. IsRow columns fs m (bits_of fs)) → (o ≡ None → IsNoRow columns fs)
    → o ≡ moment_in (length columns) fs
read_moment (Some m) columns fs some none = sym (moment_row columns fs m (bits_of fs) some)
read_moment None columns fs some none = go (moment_in (length columns) fs) refl
  where
    go : (found : Option ℕ) → moment_in (length columns) fs ≡ found → None ≡ found
    go None e = refl
    go (Some m) e = absurd (none refl m (bits_of fs) (row_of_moment columns fs m e))

-- ---- what is taken

row_length : (columns : List ℕ) (fs : Fields) (m : ℕ) (bits : List Bool) → IsRow columns fs m bits → length fs ≡ length columns + 1
row_length columns fs m bits h = let size = ap length h.same in omega (arith, size, length-map bits bit_text, h.count)

pub gives_own : (o : Option ℕ) (columns : List ℕ) (fs : Fields) → o ≡ moment_in (length columns) fs → Gives columns o fs fs
gives_own (Some m) columns fs e = let row = row_of_moment columns fs m (sym e) in (row, row_length columns fs m (bits_of fs) row)
gives_own None columns fs e = λ moment bits h. let bad = e ∙ moment_row columns fs moment bits h in cc

pub takes_some : (columns : List ℕ) (taken : Taken) (f : Filling) (all : List Numbered) (r : Numbered) (rest : List Numbered) → all ≡ r ∷ rest
    → (taken.number ≡ r.number) × Gives columns taken.moment (fields_of f.last) r.fields × Comes columns f rest → Takes columns all (Some taken) f
takes_some columns taken f all r rest e h = rw e h

-- a record in between, with the bits of the good one before it
pub gives_held : (from : Option ℕ) (columns : List ℕ) (fs : Fields) (moment : ℕ) → IsSome from → from ≡ moment_in (length columns) fs → moment < 2 ^ 64
    → Gives columns (Some moment) fs (decimal moment ∷ drop 1 fs)
gives_held (Some m) columns fs moment some e small =
    let row = row_of_moment columns fs m (sym e) in
    let bits : drop 1 fs ≡ map bit_text (bits_of fs) = ap (λ l. drop 1 l) row.same in
    (record { same = ap (λ l. decimal moment ∷ l) bits; count = row.count; small = small }, row_length columns fs m (bits_of fs) row)
gives_held None columns fs moment some e small = let bad : false ≡ true = some in cc

-- ---- what comes

pub none_come : (every width number : ℕ) (last fields : Fields) (rows : List Fields) (found : Bool) (new : Reader (Bor (List ℕ))) → found ≡ false → TakesFirst rows found fields new
    → filled_after every width number last rows ≡ []
none_come every width number last fields [] found new e h = refl
none_come every width number last fields (r ∷ rows) found new e h = let bad : true ≡ false = sym h.0 ∙ e in cc

held_is : (every : ℕ) (bits : List (List ℕ)) (from to : Option ℕ) (moment left : ℕ) → moment ≡ unwrap_or from 0 → left ≡ count_in every from to
    → held_between every bits from to ≡ repeated every bits moment left
held_is every bits (Some m) (Some n) moment left e f = rw (e, f) refl
held_is every bits (Some m) None moment left e f = rw f refl
held_is every bits None to moment left e f = rw f refl

pub some_come : (every width number moment left : ℕ) (from to : Option ℕ) (last fields : Fields) (rows : List Fields) (found : Bool) (new : Reader (Bor (List ℕ))) → found ≡ true
    → TakesFirst rows found fields new → from ≡ moment_in width last → to ≡ moment_in width fields → moment ≡ unwrap_or from 0 → left ≡ count_in every from to
    → (rest : List Fields) × Left new rest × (filled_after every width number last rows
    ≡ map (numbered number) (repeated every (drop 1 last) moment left) ++ (numbered number fields ∷ filled_after every width (number + 1) fields rest))
some_come every width number moment left from to last fields [] found new e h a b f g = let bad : true ≡ false = sym e ∙ h in cc
some_come every width number moment left from to last fields (r ∷ rows) found new e h a b f g =
    let held : between every width last fields ≡ repeated every (drop 1 last) moment left =
    ap (λ x. held_between every (drop 1 last) x (moment_in width fields)) (sym a)
    ∙ ap (λ x. held_between every (drop 1 last) from x) (sym b)
    ∙ held_is every (drop 1 last) from to moment left f g in (
      rows,
      h.2,
      ap (λ x. map (numbered number) (between every width last x) ++ (numbered number x ∷ filled_after every width (number + 1) x rows)) (sym h.1)
          ∙ ap (λ l. map (numbered number) l ++ (numbered number fields ∷ filled_after every width (number + 1) fields rows)) held,
    )

pub next_held : (every number moment left : ℕ) (bits : List (List ℕ)) (rest : List Numbered) → 0 < left
    → map (numbered number) (repeated every bits moment left) ++ rest
    ≡ numbered number (decimal (moment + every) ∷ bits) ∷ (map (numbered number) (repeated every bits (moment + every) (left - 1)) ++ rest)
next_held every number moment zero bits rest some = absurd (omega (arith, some))
next_held every number moment (suc left) bits rest some =
    let same : left ≡ suc left - 1 = omega arith in
    ap (λ n. numbered number (decimal (moment + every) ∷ bits) ∷ (map (numbered number) (repeated every bits (moment + every) n) ++ rest)) same

pub none_takes : (columns : List ℕ) (all : List Numbered) (found : Bool) (f : Filling) → found ≡ false → StillComes columns found f all → Takes columns all None f
none_takes columns all true f e h = cc
none_takes columns [] false f e h = refl
none_takes columns (r ∷ all) false f e h = cc

pub still_come : (columns : List ℕ) (all : List Numbered) (found : Bool) (f g : Filling) → found ≡ true → g ≡ f → StillComes columns found f all → Comes columns g all
still_come columns all true f g e same h = subst (λ x. Comes columns x all) (sym same) h
still_come columns all false f g e same h = cc

-- ---- moments

pub one_step : (every left : ℕ) → 0 < left → every * left ≡ every + every * (left - 1)
one_step every zero some = absurd (omega (arith, some))
one_step every (suc left) some = grind arith
