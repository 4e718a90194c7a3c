-- The bits of a row, one after the other.
use Rattle.std.proofs.Common.{◌≡◌, ◌∙◌, ℕ, ◌+◌, ◌-◌, ◌*◌, ◌<◌, ◌≤◌, List, [], ◌∷◌, ◌++◌, sym, ap, append_assoc, append-nil, map, codes, arith, length, take, drop, set, length-append, length-set}
use Rattle.std.proofs.lemmas.Grind.{take-set_at}
use Rattle.std.specs.List.{range_with_len, slice_range}
use borrow.Rule.Slice.PartMut.{put_mid, post_of}
use Rattle.std.proofs.lemmas.List.{drop_at, length-take-le, map-append, take-append-drop, take_at}
use Rattle.causes_query.specs.Assignment.{bit_of}
use Rattle.io_text.specs.Text.{after_commas, bit_text}
use Rattle.io_text.proofs.Commas.{after_commas-append}
use Rattle.text_causes.specs.Rows.{bits}
use Rattle.diagram_program.proofs.Ranges.{range_parts}

-- one bit more
pub bits_more : (k n i : ℕ) → after_commas (bits k n (i + 1)) ≡ after_commas (bits k n i) ++ (codes "," ++ bit_text (bit_of k i n))
bits_more k n i =
    let f = λ (place : ℕ). bit_text (bit_of k place n) in
    let here : 0 + i ≡ i = omega arith in
    ap (λ xs. after_commas (map f xs)) (range_parts 0 i 1)
    ∙ ap after_commas (map-append f (range_with_len 0 i) (range_with_len (0 + i) 1))
    ∙ after_commas-append (bits k n i) (map f (range_with_len (0 + i) 1))
    ∙ ap (λ j. after_commas (bits k n i) ++ (codes "," ++ (f j ++ []))) here
    ∙ ap (λ t. after_commas (bits k n i) ++ (codes "," ++ t)) (append-nil (f i))

-- one bit more that is written on a text
pub bit_more : (text : List ℕ) (k n i digit : ℕ) → 2 * i + 1 < length text → take (2 * i) text ≡ after_commas (bits k n i)
    → digit ∷ [] ≡ bit_text (bit_of k i n)
    → take (2 * (i + 1)) (set (set text (2 * i) 44) (2 * i + 1) digit) ≡ after_commas (bits k n (i + 1))
bit_more text k n i digit room so_far is =
    let first : take (2 * i + 1) (set text (2 * i) 44) ≡ take (2 * i) text ++ 44 ∷ [] = take-set_at text (2 * i) (2 * i + 1) 44 (omega arith) (omega arith) in
    let long : 2 * i + 1 < length (set text (2 * i) 44) = rw (length-set text (2 * i) 44) room in
    take-set_at (set text (2 * i) 44) (2 * i + 1) (2 * (i + 1)) digit (omega arith) long
    ∙ ap (λ t. t ++ digit ∷ []) (first ∙ ap (λ t. t ++ 44 ∷ []) so_far)
    ∙ append_assoc (after_commas (bits k n i)) (44 ∷ []) (digit ∷ [])
    ∙ ap (λ t. after_commas (bits k n i) ++ 44 ∷ t) is
    ∙ sym (bits_more k n i)

-- digits that end where the end of a row begins, which was written on the part of a text behind a place
pub row_is : (text part whole digits ends : List ℕ) (at k m n start : ℕ) → at ≤ length text → m ≤ length part → take m part ≡ ends
    → start + length digits ≡ at → drop start whole ≡ digits ++ drop at (put_mid at k text part) → n ≡ at + m
    → slice_range whole start n ≡ digits ++ ends
row_is text part whole digits ends at k m n start room more is begins written stops =
    let after = drop m part ++ post_of at k text in
    let behind : drop at (put_mid at k text part) ≡ part ++ post_of at k text = drop_at (take at text) (part ++ post_of at k text) at (length-take-le at text room) in
    let parts : part ++ post_of at k text ≡ ends ++ after =
    ap (λ xs. xs ++ post_of at k text) (sym (take-append-drop m part) ∙ ap (λ xs. xs ++ drop m part) is) ∙ append_assoc ends (drop m part) (post_of at k text) in
    let cut : drop start whole ≡ (digits ++ ends) ++ after =
    written ∙ ap (λ xs. digits ++ xs) (behind ∙ parts) ∙ sym (append_assoc digits ends after) in
    let many : length ends ≡ m = ap length (sym is) ∙ length-take-le m part more in
    let long : length (digits ++ ends) ≡ n - start = omega (arith, length-append digits ends, many) in
    ap (take (n - start)) cut ∙ take_at (digits ++ ends) after (n - start) long

-- there is room for digits in front of that part
pub digits_fit : (text part : List ℕ) (at k : ℕ) → at ≤ length text → at ≤ length (put_mid at k text part)
digits_fit text part at k room =
    omega (arith, length-append (take at text) (part ++ post_of at k text), length-take-le at text room)
