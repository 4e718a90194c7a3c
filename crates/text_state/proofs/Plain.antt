-- The records of a state stand in a text as they are: their fields hold no comma, quote or line end.
use Rattle.std.proofs.Common.{◌≡◌, ◌<◌, ◌≤◌, ◌*◌, ◌==◌, ◌||◌, ◌&&◌, ◌∙◌, ◌^◌, ◌∷◌, ◌++◌, [], if◌then◌else◌, ℕ, ℤ, pos, negsuc, suc, Bool, true, false, List, Some, refl, sym, ap, arith, decimal, length, slice_get, subst}
use Rattle.std.specs.List.{list_all}
use Rattle.std.specs.Fmt.{signed_decimal}
use Rattle.std.specs.Char.{is_ascii_alphabetic}
use Rattle.std.specs.Int.{w16}
use Rattle.std.specs.Prelude.{FitsSigned}
use Rattle.std.specs.Str.Parse.{AllDigits}
use Rattle.std.proofs.lemmas.Bool.{ne_eqb, and_parts}
use Rattle.std.proofs.lemmas.Fmt.{decimal_is_IsNumeral}
use Rattle.std.proofs.lemmas.Str.Parse.{digit_from_value}
use Rattle.csv.specs.Reading.{strip_bom}
use Rattle.csv.specs.Writing.{default_writer, needs_byte}
use Rattle.io_text.specs.Left.{Fields}
use Rattle.io_text.specs.Text.{ArePlainFields, ArePlainRecords, IsPlainField, IsPlainRecord, bit_text, records_of}
use Rattle.io_text.proofs.Plain.{records_of_lines}
use Rattle.diagram_declarations.specs.Name.{is_name, is_name_byte}
use Rattle.diagram_declarations.specs.declared.decls.Var.{Var}
use Rattle.diagram_program.specs.declared.geometry.TheConstants.{PLACES, RUNGS}
use Rattle.diagram_program.specs.Program.{Drawing, IsWhole}
use Rattle.scan_signals.specs.declared.block.Stored.{Stored}
use Rattle.scan_signals.specs.declared.block.Stored.TheVariants.{Timer, Counter, Bistable}
use Rattle.scan_cycle.specs.RungByRung.{IsPossible}
use Rattle.scan_cycle.specs.Standing.{Standing}
use Rattle.scan_cycle.proofs.Possible.{can_possible}
use Rattle.text_state.specs.Named.{AreNamed}
use Rattle.text_state.specs.Parts.{block_item, each, every, some, tells}
use Rattle.text_state.specs.StateText.{IsStateOf, block_record, memory_places, memory_record, state_records, state_text, var_record}
use Rattle.text_state.specs.declared.version.Version.TheVariants.{Second}
use Rattle.text_state.proofs.Places.{place_below}
use Rattle.text_state.proofs.Segments.{blocks_in, can_hold, in_parts, memories_in, values_of}

-- ---- one field

-- 44 is the comma, 34 the quote; 13 and 10 end a line
plain_byte : (test : ℕ → Bool) → test 44 ≡ false → test 34 ≡ false → test 13 ≡ false → test 10 ≡ false → (b : ℕ) → test b ≡ true → needs_byte default_writer b ≡ false
plain_byte test comma quote first second b h =
    let other : (k : ℕ) → test k ≡ false → (b == k) ≡ false = λ k no. ne_eqb b k (λ e. let bad : true ≡ false = sym h ∙ ap test e ∙ no in cc) in
    rw (other 44 comma, other 34 quote, other 13 first, other 10 second) refl

bytes_plain : (bs : List ℕ) → list_all is_name_byte bs ≡ true → IsPlainField bs
bytes_plain [] h = refl
bytes_plain (b ∷ bs) h =
    let q = and_parts (is_name_byte b) (list_all is_name_byte bs) h in
    rw (plain_byte is_name_byte refl refl refl refl b q.0) (bytes_plain bs q.1)

name_plain : (name : List ℕ) → is_name name ≡ true → IsPlainField name
name_plain [] h = refl
name_plain (b ∷ bs) h =
    let form = and_parts ((is_ascii_alphabetic b || b == 95) && list_all is_name_byte bs) _ h in
    let q = and_parts (is_ascii_alphabetic b || b == 95) (list_all is_name_byte bs) form.0 in
    rw (plain_byte (λ c. is_ascii_alphabetic c || c == 95) refl refl refl refl b q.0) (bytes_plain bs q.1)

digit_plain : (c : ℕ) → 48 ≤ c → c ≤ 57 → needs_byte default_writer c ≡ false
digit_plain c a b = rw (ne_eqb c 44 (omega arith), ne_eqb c 34 (omega arith), ne_eqb c 13 (omega arith), ne_eqb c 10 (omega arith)) refl

digits_plain : (ds : List ℕ) → AllDigits 10 ds → IsPlainField ds
digits_plain [] h = refl
digits_plain (c ∷ cs) h =
    let d = digit_from_value c h.0 in
    rw (digit_plain c (omega (arith, d)) (omega (arith, d))) (digits_plain cs h.1)

decimal_plain : (n : ℕ) → n < 2 ^ 64 → IsPlainField (decimal n)
decimal_plain n h = digits_plain (decimal n) (decimal_is_IsNumeral n h).0.1

signed_plain : (z : ℤ) → FitsSigned w16 z → IsPlainField (signed_decimal z)
signed_plain (pos n) h = decimal_plain n (omega (arith, h.sfits))
signed_plain (negsuc n) h = decimal_plain (suc n) (omega (arith, h.sfits))

bit_plain : (b : Bool) → IsPlainField (bit_text b)
bit_plain true = refl
bit_plain false = refl

-- ---- one record

var_plain : (v : Var) (b : Bool) → is_name v.name ≡ true → IsPlainRecord (var_record v b)
unfolding ArePlainFields
var_plain v b h = (omega arith, refl, (name_plain v.name h, (bit_plain b, tt)))

memory_plain : (place : ℕ) (b : Bool) → place < PLACES * RUNGS → IsPlainRecord (memory_record place b)
unfolding ArePlainFields
memory_plain place b h = (omega arith, refl, (decimal_plain _ (omega arith), (decimal_plain _ (omega arith), (decimal_plain _ (omega arith), (bit_plain b, tt)))))

block_plain : (name : List ℕ) (moment : ℕ) (s : Stored) → is_name name ≡ true → moment < 2 ^ 64 → IsPossible moment s → IsPlainRecord (block_record name s)
unfolding ArePlainFields
block_plain name moment (Timer l r start q) n m h = (omega arith, refl, (name_plain name n, (bit_plain l, (bit_plain r, (decimal_plain start (omega (arith, h.0)), (bit_plain q, tt))))))
block_plain name moment (Counter l cv q) n m h = (omega arith, refl, (name_plain name n, (bit_plain l, (signed_plain cv h, (bit_plain q, tt)))))
block_plain name moment (Bistable q) n m h = (omega arith, refl, (name_plain name n, (bit_plain q, tt)))

-- ---- all of them

append_plain : (a b : List Fields) → ArePlainRecords a → ArePlainRecords b → ArePlainRecords (a ++ b)
unfolding ArePlainRecords
append_plain [] b h k = k
append_plain (r ∷ a) b h k = (h.0, append_plain a b h.1 k)

some_plain : (has : Bool) (r : Fields) → IsPlainRecord r → ArePlainRecords (if has then r ∷ [] else [])
unfolding ArePlainRecords
some_plain true r h = (h, tt)
some_plain false r h = tt

each_plain : {A B : Type 0} (has : A → Bool) (item : A → B → Fields) (xs : List A) (ys : List B)
    → ((i : ℕ) (x : A) (y : B) → slice_get xs i ≡ Some x → slice_get ys i ≡ Some y → IsPlainRecord (item x y)) → ArePlainRecords (each (some has item) xs ys)
unfolding ArePlainRecords
each_plain has item [] ys h = tt
each_plain has item (x ∷ xs) [] h = tt
each_plain has item (x ∷ xs) (y ∷ ys) h =
    append_plain (some has item x y) (each (some has item) xs ys) (some_plain (has x) (item x y) (h 0 x y refl refl)) (each_plain has item xs ys (λ i a b p q. h (suc i) a b p q))

state_plain : (p : Drawing) (s : Standing) → IsWhole p → AreNamed (λ v. v.name) p.decls.vars → AreNamed (λ i. i.name) p.decls.instances → IsStateOf p s
    → ArePlainRecords (state_records Second p s)
unfolding ArePlainRecords ArePlainFields
state_plain p s whole vars instances ok =
    let values = each_plain every var_record p.decls.vars s.held.values (λ i v b e f. var_plain v b (vars i v e)) in
    let memories = each_plain every memory_record (memory_places p) s.held.kept.memories
    (λ i place b e f. memory_plain place b (omega (arith, whole.few, whole.size, place_below p (length p.sites) i place e))) in
    let blocks = each_plain (tells Second) block_item p.decls.instances s.held.kept.blocks
    (λ i x z e f. block_plain x.name s.moment z (instances i x e) ok.standing.small (can_possible x.kind s.moment z (can_hold p s s.moment ok refl i x z e f))) in (
      (omega arith, refl, (refl, tt)),
      (
        (omega arith, refl, (decimal_plain s.moment ok.standing.small, tt)),
        subst ArePlainRecords (sym (in_parts Second p s))
            (append_plain (values_of p s) (memories_in p s ++ blocks_in Second p s) values (append_plain (memories_in p s) (blocks_in Second p s) memories blocks)),
      ),
    )

-- the records of the text of a state are its records
pub records_back : (p : Drawing) (s : Standing) → IsWhole p → AreNamed (λ v. v.name) p.decls.vars → AreNamed (λ i. i.name) p.decls.instances → IsStateOf p s
    → records_of (state_text p s) ≡ state_records Second p s
unfolding strip_bom
records_back p s whole vars instances ok = records_of_lines (state_records Second p s) (state_plain p s whole vars instances ok) refl
