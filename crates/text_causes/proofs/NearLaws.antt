-- Rows that differ in their last two digits and their last six bits alone.
use Rattle.std.proofs.Common.{◌≡◌, ◌∙◌, ◌⊎◌, inl, inr, Bool, true, false, ℕ, zero, suc, ◌+◌, ◌-◌, ◌*◌, ◌/◌, ◌%◌, ◌^◌, ◌<◌, ◌≤◌, ◌==◌, List, [], ◌∷◌, ◌++◌, sym, refl, ap, append_assoc, map, codes, arith, add-one, length, take, drop, length-append}
use Rattle.std.specs.Prelude.{decimal}
use Rattle.std.specs.List.{range_with_len, slice_range}
use Rattle.std.proofs.lemmas.Fmt.{decimal_step}
use Rattle.std.proofs.lemmas.List.{drop_at, map-append, take-append-drop, take-append-le, take_all, take_at, length-take-le, length-drop}
use Rattle.std.proofs.lemmas.Bool.{cases_lt}
use Rattle.std.proofs.lemmas.Nat.{pow-add}
use Rattle.std.proofs.Math.Nat.{div-div-eq-div-mul}
use borrow.Rule.Slice.PartMut.{put_mid, post_of, take_put}
use lib.Lanes.{put_chunk}
use Rattle.std.proofs.lemmas.Simd.{length-put_chunk, put_chunk_is}
use Rattle.causes_query.specs.Assignment.{bit_of}
use Rattle.io_text.specs.Text.{after_commas, bit_text}
use Rattle.io_text.proofs.Commas.{after_commas-append}
use Rattle.text_causes.specs.Rows.{bits, row}
use Rattle.text_causes.specs.Kept.{ArePairs, AreTails, IsKept, IsNear, Serves, ends, pair_text, tail_text}
use Rattle.text_causes.specs.declared.kept.Kept.{Kept}
use Rattle.text_causes.proofs.RowLaws.{bits_more}
use Rattle.diagram_program.proofs.Ranges.{range_parts}

same_map : {X : Type 0} (f g : ℕ → X) (a b n : ℕ) → ((i : ℕ) → i < n → f (a + i) ≡ g (b + i)) → map f (range_with_len a n) ≡ map g (range_with_len b n)
same_map f g a b zero h = refl
same_map f g a b (suc n) h =
    let here : f a ≡ g b = ap f (omega arith) ∙ h 0 (omega arith) ∙ ap g (omega arith) in
    let next : (i : ℕ) → i < n → f (a + 1 + i) ≡ g (b + 1 + i) = λ i less.
    ap f (omega arith) ∙ h (suc i) (omega arith) ∙ ap g (omega arith) in
    ap (λ x. x ∷ map f (range_with_len (a + 1) n)) here ∙ ap (λ xs. g b ∷ xs) (same_map f g (a + 1) (b + 1) n next)

-- the bits in front are those of the number without its last six bits
front_bit : (m n i : ℕ) → i < m → bit_of (m + 6) i n ≡ bit_of m i (n / 64)
front_bit m n i less =
    let places : m + 6 - (i + 1) ≡ 6 + (m - (i + 1)) = omega arith in
    ap (λ e. n / 2 ^ e % 2 == 1) places
    ∙ ap (λ d. n / d % 2 == 1) (pow-add 2 6 (m - (i + 1)))
    ∙ ap (λ d. d % 2 == 1) (sym (div-div-eq-div-mul n 64 (2 ^ (m - (i + 1)))))

six : (n i : ℕ) → i < 6 → n / 2 ^ i % 2 ≡ n % 64 / 2 ^ i % 2
six n (suc (suc (suc (suc (suc (suc i)))))) less = absurd (omega (arith, less))
six n _ less = omega arith

last_bit : (m n i : ℕ) → i < 6 → bit_of (m + 6) (0 + m + i) n ≡ bit_of 6 (0 + i) (n % 64)
last_bit m n i less =
    let places : m + 6 - (0 + m + i + 1) ≡ 6 - (0 + i + 1) = omega arith in
    ap (λ e. n / 2 ^ e % 2 == 1) places ∙ ap (λ d. d == 1) (six n (6 - (0 + i + 1)) (omega arith))

bits_cut : (m n : ℕ) → after_commas (bits (m + 6) n (m + 6)) ≡ after_commas (bits m (n / 64) m) ++ after_commas (bits 6 (n % 64) 6)
bits_cut m n =
    let f = λ (place : ℕ). bit_text (bit_of (m + 6) place n) in
    ap (λ xs. after_commas (map f xs)) (range_parts 0 m 6)
    ∙ ap after_commas (map-append f (range_with_len 0 m) (range_with_len (0 + m) 6))
    ∙ after_commas-append (map f (range_with_len 0 m)) (map f (range_with_len (0 + m) 6))
    ∙ ap (λ xs. after_commas xs ++ after_commas (map f (range_with_len (0 + m) 6)))
    (same_map f (λ place. bit_text (bit_of m place (n / 64))) 0 0 m (λ i less. ap bit_text (front_bit m n (0 + i) (omega arith))))
    ∙ ap (λ xs. after_commas (bits m (n / 64) m) ++ after_commas xs)
    (same_map f (λ place. bit_text (bit_of 6 place (n % 64))) (0 + m) 0 6 (λ i less. ap bit_text (last_bit m n i less)))

bit_long : (b : Bool) → length (bit_text b) ≡ 1
bit_long true = refl
bit_long false = refl

bits_long : (k n i : ℕ) → length (after_commas (bits k n i)) ≡ 2 * i
bits_long k n zero = refl
bits_long k n (suc i) =
    ap (λ j. length (after_commas (bits k n j))) (sym (add-one i))
    ∙ ap length (bits_more k n i)
    ∙ length-append (after_commas (bits k n i)) (codes "," ++ bit_text (bit_of k i n))
    ∙ ap (λ m. length (after_commas (bits k n i)) + suc m) (bit_long (bit_of k i n))
    ∙ ap (λ m. m + 2) (bits_long k n i)
    ∙ twice i
  where
    twice : (i : ℕ) → 2 * i + 2 ≡ 2 * suc i
    twice i = omega arith

-- the last two digits
abbrev pub pair : ℕ → List ℕ
pair n = pair_text (n % 100)

decimal_cut : (n : ℕ) → 100 ≤ n → n < 2 ^ 64 → decimal n ≡ decimal (n / 100) ++ pair n
decimal_cut n large fits =
    let tens : n / 10 / 10 ≡ n / 100 = omega arith in
    let ten : n / 10 % 10 ≡ n % 100 / 10 = omega arith in
    let one : n % 10 ≡ n % 100 % 10 = omega arith in
    decimal_step n (omega arith) fits
    ∙ ap (λ xs. xs ++ ((48 + n % 10) ∷ [])) (decimal_step (n / 10) (omega arith) (omega arith))
    ∙ append_assoc (decimal (n / 10 / 10)) ((48 + n / 10 % 10) ∷ []) ((48 + n % 10) ∷ [])
    ∙ ap (λ q. decimal q ++ ((48 + n / 10 % 10) ∷ (48 + n % 10) ∷ [])) tens
    ∙ ap (λ x. decimal (n / 100) ++ ((48 + x) ∷ (48 + n % 10) ∷ [])) ten
    ∙ ap (λ x. decimal (n / 100) ++ ((48 + n % 100 / 10) ∷ (48 + x) ∷ [])) one

-- the bits in front of the last six
abbrev pub front : ℕ → ℕ → List ℕ
front k n = after_commas (bits (k - 6) (n / 64) (k - 6))

pub ends_cut : (k n : ℕ) → 6 ≤ k → ends k n ≡ front k n ++ tail_text (n % 64)
ends_cut k n wide =
    let many : k ≡ (k - 6) + 6 = omega (arith, wide) in
    ap (λ j. after_commas (bits j n j) ++ codes "\n") many
    ∙ ap (λ xs. xs ++ codes "\n") (bits_cut (k - 6) n)
    ∙ append_assoc (front k n) (after_commas (bits 6 (n % 64) 6)) (codes "\n")

pub row_cut : (k n : ℕ) → 6 ≤ k → 100 ≤ n → n < 2 ^ 64 → row k n ≡ decimal (n / 100) ++ (pair n ++ (front k n ++ tail_text (n % 64)))
row_cut k n wide large fits =
    ap (λ xs. xs ++ ends k n) (decimal_cut n large fits)
    ∙ append_assoc (decimal (n / 100)) (pair n) (ends k n)
    ∙ ap (λ xs. decimal (n / 100) ++ (pair n ++ xs)) (ends_cut k n wide)

-- a part in the middle is another one
pub put_mid_is : (d m : ℕ) (xs p a q b : List ℕ) → xs ≡ a ++ (q ++ b) → length a ≡ d → length q ≡ m → put_mid d m xs p ≡ a ++ (p ++ b)
put_mid_is d m xs p a q b e la lq =
    ap (λ ys. put_mid d m ys p) e
    ∙ ap (λ ys. ys ++ (p ++ drop m (drop d (a ++ (q ++ b))))) (take_at a (q ++ b) d la)
    ∙ ap (λ ys. a ++ (p ++ drop m ys)) (drop_at a (q ++ b) d la)
    ∙ ap (λ ys. a ++ (p ++ ys)) (drop_at q b m lq)

-- what lies before the end of a front is in the front
cut_front : (a m e : ℕ) (zs : List ℕ) → a + m ≤ e → take m (drop a (take e zs)) ≡ take m (drop a zs)
cut_front zero (suc m) zero zs h = absurd (omega (arith, h))
cut_front zero (suc m) (suc e) (z ∷ zs) h = ap (λ l. z ∷ l) (cut_front zero m e zs (omega (arith, h)))
cut_front (suc a) m zero zs h = absurd (omega (arith, h))
cut_front (suc a) m (suc e) (z ∷ zs) h = cut_front a m e zs (omega (arith, h))
cut_front _ _ _ _ h = refl

part_of_front : (a m e : ℕ) (xs ys : List ℕ) → a + m ≤ e → take e xs ≡ take e ys → take m (drop a xs) ≡ take m (drop a ys)
part_of_front a m e xs ys h same =
    sym (cut_front a m e xs h) ∙ ap (λ zs. take m (drop a zs)) same ∙ cut_front a m e ys h

-- one part more, of parts that stand one behind the other
pub parts_more : (f : ℕ → List ℕ) (step m : ℕ) (text part : List ℕ) (at k i : ℕ) → at ≡ step * i → ((j : ℕ) → j < i → step * j + m ≤ at)
    → at ≤ length text → m ≤ length part → ((j : ℕ) → j < i → take m (drop (step * j) text) ≡ f j) → take m part ≡ f i
    → (j : ℕ) → j < i + 1 → take m (drop (step * j) (put_mid at k text part)) ≡ f j
parts_more f step m text part at k i here apart room long so_far is j less =
    split (cases_lt j i)
  where
    before : take at (put_mid at k text part) ≡ take at text
    before = take_put at k text part room

    split : (j < i) ⊎ (i ≤ j) → take m (drop (step * j) (put_mid at k text part)) ≡ f j
    split (inl low) = part_of_front (step * j) m at (put_mid at k text part) text (apart j low) before ∙ so_far j low
    split (inr high) =
        let same : j ≡ i = omega (arith, less, high) in
        let place : step * j ≡ at = ap (λ x. step * x) same ∙ sym here in
        ap (λ a. take m (drop a (put_mid at k text part))) place
        ∙ ap (λ xs. take m xs) (drop_at (take at text) (part ++ post_of at k text) at (length-take-le at text room))
        ∙ take-append-le m part (post_of at k text) long
        ∙ is ∙ ap f (sym same)

pub tails_more : (text part : List ℕ) (at k i : ℕ) → at ≡ 16 * i → at ≤ length text → 13 ≤ length part → AreTails text i → take 13 part ≡ tail_text i
    → AreTails (put_mid at k text part) (i + 1)
tails_more text part at k i here room long so_far is =
    parts_more (λ x. tail_text x) 16 13 text part at k i here (λ j low. omega (arith, low, here)) room long so_far is

pub pairs_more : (text part : List ℕ) (at k i : ℕ) → at ≡ 2 * i → at ≤ length text → part ≡ pair_text i → ArePairs text i
    → ArePairs (put_mid at k text part) (i + 1)
pairs_more text part at k i here room is so_far =
    let long : length part ≡ 2 = ap length is in
    parts_more (λ x. pair_text x) 2 2 text part at k i here (λ j low. omega (arith, low, here)) room (omega (arith, long)) so_far (ap (λ xs. take 2 xs) is)

tail_long : (i : ℕ) → length (tail_text i) ≡ 13
tail_long i = length-append (after_commas (bits 6 i 6)) (codes "\n") ∙ ap (λ m. m + 1) (bits_long 6 i 6)

drop_none : (n : ℕ) → drop {A = ℕ} n [] ≡ []
drop_none zero = refl
drop_none (suc n) = refl

pub drop_twice : (a b : ℕ) (xs : List ℕ) → drop b (drop a xs) ≡ drop (a + b) xs
drop_twice zero b xs = let e : b ≡ 0 + b = omega arith in ap (λ n. drop n xs) e
drop_twice (suc a) b [] = drop_none b ∙ sym (drop_none (suc a + b))
drop_twice (suc a) b (x ∷ xs) = let e : suc (a + b) ≡ suc a + b = omega arith in drop_twice a b xs ∙ ap (λ n. drop n (x ∷ xs)) e

-- The row of a number that is near a kept one, which was copied onto the front of a text: its own last digits and bits are put over that one's.
pub near_row : (text kept copied paired tails : List ℕ) (k n h s start digits tail long : ℕ)
    → n / 100 ≡ h / 100 → n / 64 ≡ s / 64 → 100 ≤ h → 6 ≤ k → long ≤ 77
    → start + length (decimal h) ≡ 20 → take (20 - start) (drop start kept) ≡ decimal h → take (2 * k + 1) (drop 20 kept) ≡ ends k s
    → h < 2 ^ 64 → n < 2 ^ 64 → k ≤ 64 → length text ≡ 80 → length kept ≡ 149
    → copied ≡ take 64 (drop start kept) ++ drop 64 text
    → digits + start ≡ 18 → paired ≡ put_mid digits 2 copied (pair n)
    → take 13 tails ≡ tail_text (n % 64)
    → long + start ≡ 21 + 2 * k → tail + 13 ≡ long
    → take long (put_mid tail 16 paired tails) ≡ row k n
near_row text kept copied paired tails k n h s start digits tail long hundreds sixties large wide short begins digits_are ends_are h_fits n_fits few room kept_long copy d_is pair_is tails_are long_is tail_is =
    let A = decimal (n / 100) in
    let F = front k n in
    let D = drop start kept in
    let R = drop (2 * k + 1) (drop 20 kept) in
    let T = tail_text (s % 64) ++ R in
    let begin : start + (20 - start) ≡ 20 = omega (arith, begins) in
    let D_is : D ≡ (A ++ (pair h ++ F)) ++ T =
    sym (take-append-drop (20 - start) D)
    ∙ ap (λ xs. xs ++ drop (20 - start) D) (digits_are ∙ decimal_cut h large h_fits ∙ ap (λ q. decimal q ++ pair h) (sym hundreds))
    ∙ ap (λ xs. (A ++ pair h) ++ xs) (drop_twice start (20 - start) kept ∙ ap (λ m. drop m kept) begin ∙ sym (take-append-drop (2 * k + 1) (drop 20 kept))
    ∙ ap (λ xs. xs ++ R) (ends_are ∙ ends_cut k s wide ∙ ap (λ q. after_commas (bits (k - 6) q (k - 6)) ++ tail_text (s % 64)) (sym sixties)))
    ∙ append_assoc A (pair h) ((F ++ tail_text (s % 64)) ++ R)
    ∙ ap (λ xs. A ++ (pair h ++ xs)) (append_assoc F (tail_text (s % 64)) R)
    ∙ ap (λ xs. A ++ xs) (sym (append_assoc (pair h) F T))
    ∙ sym (append_assoc A (pair h ++ F) T) in
    let A_long : length A ≡ digits =
    omega (arith, begins, d_is, ap (λ q. length (decimal q)) hundreds, ap length (decimal_cut h large h_fits), length-append (decimal (h / 100)) (pair h)) in
    let H = A ++ (pair h ++ F) in
    let H_long : length H ≡ tail =
    omega (arith, length-append A (pair h ++ F), length-append (pair h) F, bits_long (k - 6) (n / 64) (k - 6), A_long, d_is, tail_is, long_is, wide) in
    let D_long : length D ≡ 149 - start = length-drop start kept ∙ ap (λ m. m - start) kept_long in
    let C = take 64 D in
    let C_long : length C ≡ 64 = length-take-le 64 D (omega (arith, D_long, begins)) in
    let first : take tail copied ≡ H =
    ap (take tail) copy ∙ take-append-le tail C (drop 64 text) (omega (arith, C_long, tail_is, short))
    ∙ cut_front 0 tail 64 D (omega (arith, tail_is, short)) ∙ ap (take tail) D_is ∙ take_at H T tail H_long in
    let copied_long : length copied ≡ 80 = omega (arith, ap length copy, length-append C (drop 64 text), C_long, length-drop 64 text, room) in
    let Y = drop tail copied in
    let Y_long : 16 ≤ length Y = omega (arith, length-drop tail copied, copied_long, tail_is, short) in
    let copied_is : copied ≡ A ++ (pair h ++ (F ++ Y)) =
    sym (take-append-drop tail copied) ∙ ap (λ xs. xs ++ Y) first
    ∙ append_assoc A (pair h ++ F) Y ∙ ap (λ xs. A ++ xs) (append_assoc (pair h) F Y) in
    let paired_is : paired ≡ A ++ (pair n ++ (F ++ Y)) =
    pair_is ∙ put_mid_is digits 2 copied (pair n) A (pair h) (F ++ Y) copied_is A_long refl in
    let B = A ++ (pair n ++ F) in
    let B_long : length B ≡ tail =
    omega (arith, length-append A (pair n ++ F), length-append (pair n) F, bits_long (k - 6) (n / 64) (k - 6), A_long, d_is, tail_is, long_is, wide) in
    let cut : paired ≡ B ++ (take 16 Y ++ drop 16 Y) =
    paired_is
    ∙ ap (λ xs. A ++ xs) (sym (append_assoc (pair n) F Y))
    ∙ sym (append_assoc A (pair n ++ F) Y)
    ∙ ap (λ xs. B ++ xs) (sym (take-append-drop 16 Y)) in
    let E = tail_text (n % 64) in
    let tails_cut : tails ≡ E ++ drop 13 tails = sym (take-append-drop 13 tails) ∙ ap (λ xs. xs ++ drop 13 tails) tails_are in
    let whole : put_mid tail 16 paired tails ≡ (B ++ E) ++ (drop 13 tails ++ drop 16 Y) =
    put_mid_is tail 16 paired tails B (take 16 Y) (drop 16 Y) cut B_long (length-take-le 16 Y Y_long)
    ∙ ap (λ xs. B ++ (xs ++ drop 16 Y)) tails_cut
    ∙ ap (λ xs. B ++ xs) (append_assoc E (drop 13 tails) (drop 16 Y))
    ∙ sym (append_assoc B E (drop 13 tails ++ drop 16 Y)) in
    let last : length (B ++ E) ≡ long = omega (arith, length-append B E, B_long, tail_long (n % 64), tail_is) in
    ap (λ xs. take long xs) whole
    ∙ take_at (B ++ E) (drop 13 tails ++ drop 16 Y) long last
    ∙ append_assoc A (pair n ++ F) E
    ∙ ap (λ xs. A ++ xs) (append_assoc (pair n) F E)
    ∙ sym (row_cut k n wide (omega (arith, hundreds, large)) n_fits)

-- and a row of three digits or more begins in front of the last two
pub two_digits : (f : ℕ) → 100 ≤ f → f < 2 ^ 64 → 2 ≤ length (decimal f)
two_digits f large fits = omega (arith, ap length (decimal_cut f large fits), length-append (decimal (f / 100)) (pair f))

-- the last two digits, as they stand among the pairs, and the last six bits among the tails
pub low_digits : (n h : ℕ) → h % 100 ≡ 0 → n / 100 ≡ h / 100 → (h ≤ n) × (n - h ≡ n % 100)
low_digits n h whole near = (omega (arith, whole, near), omega (arith, whole, near))

pub low_bits : (n s : ℕ) → s % 64 ≡ 0 → n / 64 ≡ s / 64 → (s ≤ n) × (n - s ≡ n % 64)
low_bits n s even near = (omega (arith, even, near), omega (arith, even, near))

pub pair_is : (pairs part : List ℕ) (n h m : ℕ) → ArePairs pairs 100 → h % 100 ≡ 0 → n / 100 ≡ h / 100 → m ≡ 2
    → part ≡ take m (drop (2 * (n - h)) pairs) → part ≡ pair n
pair_is pairs part n h m are whole near e p =
    p ∙ ap (λ k. take k (drop (2 * (n - h)) pairs)) e
    ∙ ap (λ x. take 2 (drop (2 * x) pairs)) (low_digits n h whole near).1
    ∙ are (n % 100) (omega arith)

-- the same in the words of the writer
stored_at : (at m : ℕ) (text bytes : List ℕ) → length bytes ≡ m → at + m ≤ length text → put_chunk at text bytes ≡ put_mid at m text bytes
stored_at at m text bytes long fits =
    let room : at + length bytes ≤ length text = omega (arith, long, fits) in
    put_chunk_is at text bytes room ∙ ap (λ n. put_mid at n text bytes) long

pub near_written : (kept : Kept) (text front pieces part : List ℕ) (k n digits tail long two ten : ℕ)
    → IsKept k kept → Serves k kept → IsNear kept n → kept.hundreds < 2 ^ 64 → n < 2 ^ 64 → k ≤ 64
    → length text ≡ 80 → length kept.text ≡ 149 → length kept.pairs ≡ 200 → length kept.tails ≡ 1024
    → front ≡ take 64 (drop kept.start kept.text)
    → pieces ≡ take 2 (drop two kept.pairs) → two ≡ 2 * (n - kept.hundreds)
    → part ≡ take 16 (drop ten kept.tails) → ten ≡ 16 * (n - kept.sixties)
    → digits + kept.start ≡ 18 → long + kept.start ≡ 21 + 2 * k → tail + 13 ≡ long
    → take long (put_chunk tail (put_chunk digits (put_chunk 0 text front) pieces) part) ≡ row k n
near_written kept text front pieces part k n digits tail long two ten is serves near h_fits n_fits few room kept_long pairs_long tails_long front_is pieces_is two_is part_is ten_is d_is long_is tail_is =
    let low = low_digits n kept.hundreds is.whole near.hundreds in
    let bits = low_bits n kept.sixties is.even near.sixties in
    let ten_low : ten ≡ 16 * (n % 64) = omega (arith, ten_is, bits.1) in
    let part_long : length part ≡ 16 = ap length part_is ∙ length-take-le 16 (drop ten kept.tails) (omega (arith, length-drop ten kept.tails, tails_long, ten_low)) in
    let ends : take 13 part ≡ tail_text (n % 64) =
    ap (λ xs. take 13 xs) (part_is ∙ ap (λ x. take 16 (drop x kept.tails)) ten_low)
    ∙ cut_front 0 13 16 (drop (16 * (n % 64)) kept.tails) (omega arith) ∙ is.tails (n % 64) (omega arith) in
    let pair_here : pieces ≡ pair n = pair_is kept.pairs pieces n kept.hundreds 2 is.pairs is.whole near.hundreds refl (pieces_is ∙ ap (λ x. take 2 (drop x kept.pairs)) two_is) in
    let pair_long : length pieces ≡ 2 = ap length pair_here in
    let front_long : length front ≡ 64 = ap length front_is ∙ length-take-le 64 (drop kept.start kept.text) (omega (arith, length-drop kept.start kept.text, kept_long, is.begins)) in
    let C = put_chunk 0 text front in
    let copied : C ≡ take 64 (drop kept.start kept.text) ++ drop 64 text =
    put_chunk_is 0 text front (omega (arith, front_long, room)) ∙ ap (λ m. front ++ drop m text) front_long ∙ ap (λ xs. xs ++ drop 64 text) front_is in
    let C_long : length C ≡ 80 = length-put_chunk 0 text front ∙ room in
    let P = put_chunk digits C pieces in
    let paired : P ≡ put_mid digits 2 C (pair n) = stored_at digits 2 C pieces pair_long (omega (arith, C_long, d_is)) ∙ ap (λ xs. put_mid digits 2 C xs) pair_here in
    let P_long : length P ≡ 80 = length-put_chunk digits C pieces ∙ C_long in
    ap (take long) (stored_at tail 16 P part part_long (omega (arith, P_long, tail_is, long_is, serves.short)))
    ∙ near_row text kept.text C P part k n kept.hundreds kept.sixties kept.start digits tail long
    near.hundreds near.sixties serves.large serves.wide (omega (arith, long_is, serves.short)) is.begins is.digits is.ends h_fits n_fits few room kept_long copied d_is paired ends long_is tail_is

-- ---- what is kept of a row
pub digits_kept : (text whole : List ℕ) (start h : ℕ) → start + length (decimal h) ≡ 20 → drop start whole ≡ decimal h ++ drop 20 text
    → (take (20 - start) (drop start whole) ≡ decimal h) × (drop 20 whole ≡ drop 20 text)
digits_kept text whole start h begins written =
    let long : length (decimal h) ≡ 20 - start = omega (arith, begins) in
    let there : start + (20 - start) ≡ 20 = omega (arith, begins) in (
      ap (take (20 - start)) written ∙ take_at (decimal h) (drop 20 text) (20 - start) long,
      ap (λ m. drop m whole) (sym there) ∙ sym (drop_twice start (20 - start) whole) ∙ ap (drop (20 - start)) written ∙ drop_at (decimal h) (drop 20 text) (20 - start) long,
    )

pub bits_kept : (text part : List ℕ) (m k s start h : ℕ) → 20 ≤ length text → 2 * k + 1 ≤ length part → start + length (decimal h) ≡ 20
    → take (20 - start) (drop start text) ≡ decimal h → take (2 * k + 1) part ≡ ends k s
    → (take (20 - start) (drop start (put_mid 20 m text part)) ≡ decimal h) × (take (2 * k + 1) (drop 20 (put_mid 20 m text part)) ≡ ends k s)
bits_kept text part m k s start h room long begins digits is = (
  part_of_front start (20 - start) 20 (put_mid 20 m text part) text (omega (arith, begins)) (take_put 20 m text part room) ∙ digits,
  ap (take (2 * k + 1)) (drop_at (take 20 text) (part ++ post_of 20 m text) 20 (length-take-le 20 text room))
      ∙ take-append-le (2 * k + 1) part (post_of 20 m text) long ∙ is,
)

-- both, of a row that is written whole
pub row_kept : (text : List ℕ) (start k n : ℕ) → start + length (decimal n) ≡ 20 → slice_range text start (20 + 2 * k + 1) ≡ row k n
    → (take (20 - start) (drop start text) ≡ decimal n) × (take (2 * k + 1) (drop 20 text) ≡ ends k n)
row_kept text start k n begins is =
    let D = drop start text in
    let long : length (decimal n) ≡ 20 - start = omega (arith, begins) in
    let there : start + (20 - start) ≡ 20 = omega (arith, begins) in
    let ends_long : length (ends k n) ≡ 2 * k + 1 = length-append (after_commas (bits k n k)) (codes "\n") ∙ ap (λ m. m + 1) (bits_long k n k) in
    let whole : length (ends k n) ≤ 2 * k + 1 = omega (arith, ends_long) in (
      sym (cut_front 0 (20 - start) (20 + 2 * k + 1 - start) D (omega (arith, begins))) ∙ ap (take (20 - start)) is ∙ take_at (decimal n) (ends k n) (20 - start) long,
      ap (λ m. take (2 * k + 1) (drop m text)) (sym there) ∙ ap (take (2 * k + 1)) (sym (drop_twice start (20 - start) text))
          ∙ sym (cut_front (20 - start) (2 * k + 1) (20 + 2 * k + 1 - start) D (omega (arith, begins)))
          ∙ ap (λ xs. take (2 * k + 1) (drop (20 - start) xs)) is ∙ ap (take (2 * k + 1)) (drop_at (decimal n) (ends k n) (20 - start) long)
          ∙ take_all (2 * k + 1) (ends k n) whole,
    )
