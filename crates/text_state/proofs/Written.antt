-- The records of items that are written one after the other.
use Rattle.std.proofs.Common.{◌≡◌, ◌∙◌, ◌+◌, ◌<◌, ◌++◌, ◌∷◌, [], ℕ, suc, zero, List, Some, sym, ap, ap₂, refl, arith, length, get_or, take, drop, slice_get, add-one}
use Rattle.std.proofs.lemmas.Option.{same_Some}
use Rattle.io_text.specs.Left.{Fields}
use Rattle.text_state.specs.StateText.{item_records}
use Rattle.text_state.specs.Parts.{each}
use Rattle.text_state.specs.declared.version.Version.TheVariants.{Second}
use Rattle.diagram_program.specs.Program.{Drawing}
use Rattle.scan_cycle.specs.Standing.{Standing}
use Rattle.io_text.specs.Text.{lines_text}
use Rattle.io_text.proofs.Commas.{lines_text-append}
use Rattle.text_state.proofs.ItemByItem.{one}
use Rattle.text_state.proofs.Segments.{blocks_in, in_parts, memories_in, values_of}

next_record : {A B : Type 0} (item : A → B → Fields) (xs : List A) (ys : List B) (i : ℕ) (x : A) (y : B) → i < length xs → x ≡ get_or xs i x → slice_get ys i ≡ Some y
    → each (one item) (take (suc i) xs) ys ≡ each (one item) (take i xs) ys ++ item x y ∷ []
next_record item [] ys i x y h e g = absurd (omega (arith, h))
next_record item (a ∷ xs) [] i x y h e g = cc
next_record item (a ∷ xs) (b ∷ ys) zero x y h e g = ap₂ (λ p q. item p q ∷ []) (sym e) (same_Some _ _ g)
next_record item (a ∷ xs) (b ∷ ys) (suc i) x y h e g = ap (λ l. item a b ∷ l) (next_record item xs ys i x y (omega (arith, h)) e g)

-- one record more
pub one_written : {A B : Type 0} (item : A → B → Fields) (xs : List A) (ys : List B) (i : ℕ) (x : A) (y : B) → i < length xs → x ≡ get_or xs i x → slice_get ys i ≡ Some y
    → each (one item) (take (i + 1) xs) ys ≡ each (one item) (take i xs) ys ++ item x y ∷ []
one_written item xs ys i x y h e g = rw (add-one i) (next_record item xs ys i x y h e g)

-- the records of items with one of them between the others
pub each_apart : {A B : Type 0} (item : A → B → Fields) (xs more : List A) (ys : List B) (x : A) (y : B) → slice_get ys (length xs) ≡ Some y
    → each (one item) (xs ++ x ∷ more) ys ≡ each (one item) xs ys ++ item x y ∷ each (one item) more (drop (suc (length xs)) ys)
each_apart item [] more [] x y g = cc
each_apart item [] more (b ∷ ys) x y g = ap (λ z. item x z ∷ each (one item) more ys) (same_Some _ _ g)
each_apart item (a ∷ xs) more [] x y g = cc
each_apart item (a ∷ xs) more (b ∷ ys) x y g = ap (λ l. item a b ∷ l) (each_apart item xs more ys x y g)

take_apart : {A : Type 0} (xs : List A) (i : ℕ) (x : A) → i < length xs → x ≡ get_or xs i x → xs ≡ take i xs ++ x ∷ drop (suc i) xs
take_apart [] i x h e = absurd (omega (arith, h))
take_apart (a ∷ xs) zero x h e = ap (λ z. z ∷ xs) (sym e)
take_apart (a ∷ xs) (suc i) x h e = ap (λ l. a ∷ l) (take_apart xs i x (omega (arith, h)) e)

take_length : {A : Type 0} (xs : List A) (i : ℕ) → i < length xs → length (take i xs) ≡ i
take_length [] i h = absurd (omega (arith, h))
take_length (a ∷ xs) zero h = refl
take_length (a ∷ xs) (suc i) h = ap suc (take_length xs i (omega (arith, h)))

-- all records, with the next one between the others
pub written_apart : {A B : Type 0} (item : A → B → Fields) (xs : List A) (ys : List B) (i : ℕ) (x : A) (y : B) → i < length xs → x ≡ get_or xs i x → slice_get ys i ≡ Some y
    → each (one item) xs ys ≡ each (one item) (take i xs) ys ++ item x y ∷ each (one item) (drop (suc i) xs) (drop (suc (length (take i xs))) ys)
written_apart item xs ys i x y h e g =
    ap (λ l. each (one item) l ys) (take_apart xs i x h e)
    ∙ each_apart item (take i xs) (drop (suc i) xs) ys x y (ap (slice_get ys) (take_length xs i h) ∙ g)

-- ---- the three parts

abbrev pub values_text : Drawing → Standing → List ℕ
values_text p s = lines_text (values_of p s)

abbrev pub memories_text : Drawing → Standing → List ℕ
memories_text p s = lines_text (memories_in p s)

abbrev pub blocks_text : Drawing → Standing → List ℕ
blocks_text p s = lines_text (blocks_in Second p s)

pub items_text : (p : Drawing) (s : Standing) → lines_text (item_records Second p s) ≡ values_text p s ++ (memories_text p s ++ blocks_text p s)
items_text p s =
    ap lines_text (in_parts Second p s) ∙ lines_text-append (values_of p s) (memories_in p s ++ blocks_in Second p s) ∙ ap (λ t. values_text p s ++ t) (lines_text-append (memories_in p s) (blocks_in Second p s))
