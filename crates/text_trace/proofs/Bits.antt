-- The bits of a record.
use Rattle.std.proofs.Common.{◌≡◌, ◌∙◌, ◌+◌, ◌<◌, ◌^◌, ◌∷◌, ◌||◌, [], ℕ, suc, zero, Bool, true, false, List, Option, Some, None, refl, sym, ap, arith, codes, decimal, drop, length, map, slice_get}
use Rattle.std.specs.Prelude.{IfSome, bytes_eq}
use Rattle.std.specs.Cmp.Lexicographic.{same_text}
use Rattle.std.proofs.lemmas.List.{length-map}
use Rattle.std.proofs.lemmas.Option.{same_Some}
use Rattle.std.proofs.lemmas.Bool.{and_parts}
use Rattle.csv.specs.Records.{field_at}
use Rattle.io_text.specs.Left.{Fields}
use Rattle.io_text.specs.Text.{bit_text, is_on}
use Rattle.text_trace.specs.Room.{bits_of}
use Rattle.text_trace.specs.Stimulus.{IsRow, are_bits, is_bit}

bit_is_bit : (b : Bool) → is_bit (Some (bit_text b)) ≡ true
bit_is_bit true = refl
bit_is_bit false = refl

pub texts_are_bits : (bits : List Bool) → are_bits (map bit_text bits) ≡ true
texts_are_bits [] = refl
texts_are_bits (b ∷ bits) = rw (bit_is_bit b) (texts_are_bits bits)

on_text : (f : List ℕ) (on off : Bool) → bytes_eq f (codes "1") ≡ on → bytes_eq f (codes "0") ≡ off → (on || off) ≡ true → bit_text on ≡ f
on_text f true off e g h = sym (same_text f (codes "1") (sym e))
on_text f false true e g h = sym (same_text f (codes "0") (sym g))
on_text f false false e g h = let bad : false ≡ true = h in cc

-- a list of bits is the text of its bits
pub bits_same : (fs : Fields) → are_bits fs ≡ true → map bit_text (map (λ f. is_on (Some f)) fs) ≡ fs
bits_same [] h = refl
bits_same (f ∷ fs) h =
    let parts = and_parts (is_bit (Some f)) (are_bits fs) h in
    let first : bit_text (is_on (Some f)) ≡ f = on_text f _ _ refl refl parts.0 in
    ap (λ x. x ∷ map bit_text (map (λ g. is_on (Some g)) fs)) first ∙ ap (λ l. f ∷ l) (bits_same fs parts.1)

-- the bit at a place
pub field_here : (fs : Fields) (i : ℕ) → i < length fs → (f : List ℕ) × (slice_get fs i ≡ Some f) × (field_at fs i ≡ Some f)
unfolding field_at
field_here [] i h = absurd (omega (arith, h))
field_here (f ∷ fs) zero h = (f, refl, refl)
field_here (f ∷ fs) (suc i) h = field_here fs i (omega (arith, h))

bit_here : (fs : Fields) (i : ℕ) → i < length fs → slice_get (map (λ f. is_on (Some f)) fs) i ≡ Some (is_on (field_at fs i))
unfolding field_at
bit_here [] i h = absurd (omega (arith, h))
bit_here (f ∷ fs) zero h = refl
bit_here (f ∷ fs) (suc i) h = bit_here fs i (omega (arith, h))

pub bit_at : (fs : Fields) (i : ℕ) → i + 1 < length fs → slice_get (bits_of fs) i ≡ Some (is_on (field_at fs (suc i)))
unfolding field_at
bit_at [] i h = absurd (omega (arith, h))
bit_at (f ∷ fs) i h = bit_here fs i (omega (arith, h))

pub field_behind : (fs : Fields) (i : ℕ) → i + 1 < length fs → (f : List ℕ) × (slice_get (drop 1 fs) i ≡ Some f) × (field_at fs (suc i) ≡ Some f)
unfolding field_at
field_behind [] i h = absurd (omega (arith, h))
field_behind (f ∷ fs) i h = field_here fs i (omega (arith, h))

-- ---- a record

pub row_first : (columns : List ℕ) (fs : Fields) (m : ℕ) (bits : List Bool) → IsRow columns fs m bits → field_at fs 0 ≡ Some (decimal m)
unfolding field_at
row_first columns fs m bits h = rw h.same refl

pub row_bits : (columns : List ℕ) (fs : Fields) (m : ℕ) (bits : List Bool) → IsRow columns fs m bits → are_bits (drop 1 fs) ≡ true
row_bits columns fs m bits h = ap (λ l. are_bits (drop 1 l)) h.same ∙ texts_are_bits bits

pub is_row : (columns : List ℕ) (fs : Fields) (field : List ℕ) (m : ℕ) → length fs ≡ length columns + 1 → field_at fs 0 ≡ Some field → are_bits (drop 1 fs) ≡ true → field ≡ decimal m
    → m < 2 ^ 64 → IsRow columns fs m (bits_of fs)
unfolding field_at
is_row columns [] field m h e a d s = absurd (omega (arith, h))
is_row columns (f ∷ fs) field m h e a d s = record {
  same = ap (λ x. x ∷ fs) (same_Some _ _ e ∙ d) ∙ ap (λ l. decimal m ∷ l) (sym (bits_same fs a));
  count = omega (arith, h, length-map fs (λ g. is_on (Some g)));
  small = s;
}

pub is_read : (o : Option ℕ) (columns : List ℕ) (fs : Fields) (field : List ℕ) → length fs ≡ length columns + 1 → field_at fs 0 ≡ Some field → are_bits (drop 1 fs) ≡ true
    → IfSome o (λ m. field ≡ decimal m) → IfSome o (λ m. m < 2 ^ 64) → IfSome o (λ m. IsRow columns fs m (bits_of fs))
is_read None columns fs field h e a d s = tt
is_read (Some m) columns fs field h e a d s = is_row columns fs field m h e a d s
