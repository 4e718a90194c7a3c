-- The cells of a group, one after the other and four at a time.
use Rattle.std.proofs.Common.{◌≡◌, ◌∙◌, ℕ, zero, suc, ◌+◌, ◌-◌, ◌*◌, ◌/◌, ◌%◌, ◌<◌, ◌≤◌, ◌^◌, List, [], ◌∷◌, ◌++◌, sym, refl, ap, append_assoc, append-nil, arith, codes, drop, length, map, set, take, length-append, length-set}
use Rattle.std.proofs.Math.Nat.{div-div-eq-div-mul}
use Rattle.std.proofs.lemmas.Nat.{pow-add}
use Rattle.std.proofs.lemmas.Grind.{take-set_at}
use Rattle.std.proofs.lemmas.List.{length-drop, length-take-le, map-append, take-append-drop, take_at}
use borrow.Rule.Slice.PartMut.{put_mid, post_of}
use Rattle.std.specs.Int.{bit_at}
use Rattle.search_groups.specs.Groups.{cell, cells, group}
use Rattle.search_groups.specs.declared.walk.Group.{Group}
use Rattle.io_text.specs.Text.{after_commas}
use Rattle.io_text.proofs.Commas.{after_commas-append}
use Rattle.text_causes.specs.GroupText.{cell_text}
use Rattle.text_causes.specs.Fours.{AreFours, four_text}

-- the text of some cells
abbrev pub shown : ℕ → Group → List ℕ
shown k g = after_commas (map cell_text (cells k g))

-- ---- one by one

next : (m left : ℕ) (g : Group) → left ≡ suc m → shown left g ≡ (codes "," ++ cell_text (cell (bit_at g.dashes m) (bit_at g.value m))) ++ shown m g
unfolding cells
next m left g e = ap (λ n. shown n g) e
    ∙ sym (append_assoc (codes ",") (cell_text (cell (bit_at g.dashes m) (bit_at g.value m))) (shown m g))

-- a comma and a byte that are written behind the front of a text
two_more : (text : List ℕ) (i byte : ℕ) → 2 * i + 1 < length text
    → take (2 * (i + 1)) (set (set text (2 * i) 44) (2 * i + 1) byte) ≡ take (2 * i) text ++ (44 ∷ byte ∷ [])
two_more text i byte room =
    let first : take (2 * i + 1) (set text (2 * i) 44) ≡ take (2 * i) text ++ 44 ∷ [] = take-set_at text (2 * i) (2 * i + 1) 44 (omega arith) (omega arith) in
    let long : 2 * i + 1 < length (set text (2 * i) 44) = rw (length-set text (2 * i) 44) room in
    take-set_at (set text (2 * i) 44) (2 * i + 1) (2 * (i + 1)) byte (omega arith) long
    ∙ ap (λ t. t ++ byte ∷ []) first
    ∙ append_assoc (take (2 * i) text) (44 ∷ []) (byte ∷ [])

-- one cell more on the text
pub cell_more : (text : List ℕ) (k i m byte : ℕ) (g : Group) → i < k → m ≡ k - (i + 1) → 2 * i + 1 < length text
    → byte ∷ [] ≡ cell_text (cell (bit_at g.dashes m) (bit_at g.value m))
    → shown k g ≡ take (2 * i) text ++ shown (k - i) g
    → shown k g ≡ take (2 * (i + 1)) (set (set text (2 * i) 44) (2 * i + 1) byte) ++ shown (k - (i + 1)) g
cell_more text k i m byte g less e room is so_far =
    let left : k - i ≡ suc m = omega (arith, less, e) in
    let rest = shown m g in
    so_far
    ∙ ap (λ t. take (2 * i) text ++ t) (next m (k - i) g left)
    ∙ ap (λ t. take (2 * i) text ++ ((44 ∷ t) ++ rest)) (sym is)
    ∙ sym (append_assoc (take (2 * i) text) (44 ∷ byte ∷ []) rest)
    ∙ ap (λ t. t ++ rest) (sym (two_more text i byte room))
    ∙ ap (λ n. take (2 * (i + 1)) (set (set text (2 * i) 44) (2 * i + 1) byte) ++ shown n g) e

pub cells_none : (text : List ℕ) (k : ℕ) (g : Group) → shown k g ≡ take 0 text ++ shown (k - 0) g
cells_none text k g = let all : k - 0 ≡ k = omega arith in ap (λ n. shown n g) (sym all)

-- all cells
pub cells_all : (text : List ℕ) (k i : ℕ) (g : Group) → k ≡ i → shown k g ≡ take (2 * i) text ++ shown (k - i) g → take (2 * k) text ≡ shown k g
unfolding cells
cells_all text k i g e all =
    let none : k - i ≡ 0 = omega (arith, e) in
    ap (λ n. take (2 * n) text) e
    ∙ sym (all ∙ ap (λ n. take (2 * i) text ++ shown n g) none ∙ append-nil (take (2 * i) text))

-- ---- four at a time

later : (n p j : ℕ) → bit_at (n / 2 ^ p) j ≡ bit_at n (j + p)
later n p j =
    let e : p + j ≡ j + p = omega arith in
    ap (λ x. x % 2) (div-div-eq-div-mul n (2 ^ p) (2 ^ j)) ∙ ap (λ d. n / d % 2) (sym (pow-add 2 p j)) ∙ ap (λ k. n / 2 ^ k % 2) e

-- the last cells, and those before them
cut : (m p : ℕ) (g : Group) → cells (m + p) g ≡ cells m (group (g.value / 2 ^ p) (g.dashes / 2 ^ p)) ++ cells p g
unfolding cells
cut zero p g = let e : 0 + p ≡ p = omega arith in ap (λ n. cells n g) e
cut (suc m) p g =
    let e : suc m + p ≡ suc (m + p) = omega arith in
    ap (λ n. cells n g) e
    ∙ ap (λ d. cell d (bit_at g.value (m + p)) ∷ cells (m + p) g) (sym (later g.dashes p m))
    ∙ ap (λ v. cell (bit_at (g.dashes / 2 ^ p) m) v ∷ cells (m + p) g) (sym (later g.value p m))
    ∙ ap (λ t. cell (bit_at (g.dashes / 2 ^ p) m) (bit_at (g.value / 2 ^ p) m) ∷ t) (cut m p g)

shown_cut : (m p : ℕ) (g : Group) → shown (m + p) g ≡ shown m (group (g.value / 2 ^ p) (g.dashes / 2 ^ p)) ++ shown p g
shown_cut m p g =
    let first = cells m (group (g.value / 2 ^ p) (g.dashes / 2 ^ p)) in
    ap (λ r. after_commas (map cell_text r)) (cut m p g)
    ∙ ap after_commas (map-append cell_text first (cells p g))
    ∙ after_commas-append (map cell_text first) (map cell_text (cells p g))

-- Cells are those of the last bits.
alike : (k v d w e : ℕ) → ((j : ℕ) → j < k → bit_at v j ≡ bit_at w j) → ((j : ℕ) → j < k → bit_at d j ≡ bit_at e j) → cells k (group v d) ≡ cells k (group w e)
unfolding cells
alike zero v d w e hv hd = refl
alike (suc k) v d w e hv hd =
    ap (λ x. cell x (bit_at v k) ∷ cells k (group v d)) (hd k (omega arith))
    ∙ ap (λ x. cell (bit_at e k) x ∷ cells k (group v d)) (hv k (omega arith))
    ∙ ap (λ t. cell (bit_at e k) (bit_at w k) ∷ t) (alike k v d w e (λ j less. hv j (omega (arith, less))) (λ j less. hd j (omega (arith, less))))

low : (n i : ℕ) → i < 4 → n / 2 ^ i % 2 ≡ n % 16 / 2 ^ i % 2
low n (suc (suc (suc (suc i)))) less = absurd (omega (arith, less))
low n _ less = omega arith

-- the text of the four cells from a place on
four_is : (p i : ℕ) (g : Group) → i ≡ 16 * (g.dashes / 2 ^ p % 16) + g.value / 2 ^ p % 16
    → shown 4 (group (g.value / 2 ^ p) (g.dashes / 2 ^ p)) ≡ four_text i
four_is p i g e =
    let v : g.value / 2 ^ p % 16 ≡ i % 16 = omega (arith, e) in
    let d : g.dashes / 2 ^ p % 16 ≡ i / 16 = omega (arith, e) in
    let small : i / 16 % 16 ≡ i / 16 = omega (arith, e) in
    ap (λ r. after_commas (map cell_text r))
    (alike 4 (g.value / 2 ^ p) (g.dashes / 2 ^ p) (i % 16) (i / 16)
    (λ j less. low (g.value / 2 ^ p) j less ∙ ap (λ x. x / 2 ^ j % 2) v)
    (λ j less. low (g.dashes / 2 ^ p) j less ∙ ap (λ x. x / 2 ^ j % 2) d))

-- four cells more on the text
pub four_more : (text fours part : List ℕ) (k i m n n2 : ℕ) (g : Group) → 4 * (i + 1) ≤ k → AreFours fours 256 → 8 * i ≤ length text
    → m ≡ 16 * (g.dashes / 2 ^ (k - 4 * (i + 1)) % 16) + g.value / 2 ^ (k - 4 * (i + 1)) % 16 → m < 256
    → part ≡ take n (drop (8 * m) fours) → n ≡ 8 → length fours ≡ 2048
    → shown k g ≡ take (8 * i) text ++ shown (k - 4 * i) g
    → shown k g ≡ take (8 * (i + 1)) (put_mid (8 * i) n2 text part) ++ shown (k - 4 * (i + 1)) g
four_more text fours part k i m n n2 g less are room e small is eight all so_far =
    let p = k - 4 * (i + 1) in
    let left : k - 4 * i ≡ 4 + p = omega (arith, less) in
    let more : 8 * (i + 1) ≡ 8 * i + 8 = omega arith in
    let here : part ≡ four_text m = is ∙ ap (λ x. take x (drop (8 * m) fours)) eight ∙ are m small in
    let long : length part ≡ 8 = ap length is ∙ length-take-le n (drop (8 * m) fours) (omega (arith, length-drop (8 * m) fours, all, small, eight)) ∙ eight in
    let front = take (8 * i) text in
    let whole_long : length (front ++ part) ≡ 8 * (i + 1) = length-append front part ∙ omega (arith, length-take-le (8 * i) text room, long) in
    let whole : take (8 * (i + 1)) (put_mid (8 * i) n2 text part) ≡ front ++ part =
    ap (λ xs. take (8 * (i + 1)) xs) (sym (append_assoc front part (post_of (8 * i) n2 text)))
    ∙ take_at (front ++ part) (post_of (8 * i) n2 text) (8 * (i + 1)) whole_long in
    so_far
    ∙ ap (λ n. front ++ shown n g) left
    ∙ ap (λ t. front ++ t) (shown_cut 4 p g)
    ∙ ap (λ t. front ++ (t ++ shown p g)) (four_is p m g e ∙ sym here)
    ∙ sym (append_assoc front part (shown p g))
    ∙ ap (λ t. t ++ shown p g) (sym whole)

-- the cells that are left, behind those
pub row_all : (text part : List ℕ) (k i j n : ℕ) (g : Group) → i ≡ k / 4 → j ≡ i → 8 * i ≤ length text → 2 * (k % 4) ≤ length part
    → shown k g ≡ take (8 * j) text ++ shown (k - 4 * j) g → take (2 * (k % 4)) part ≡ shown (k % 4) g
    → take (2 * k) (put_mid (8 * i) n text part) ≡ shown k g
row_all text part k i j n g e same room more so_far is =
    let left : k - 4 * i ≡ k % 4 = omega (arith, e) in
    let both : 2 * k ≡ 8 * i + 2 * (k % 4) = omega (arith, e) in
    let front = take (8 * i) text in
    ap (λ z. take z (put_mid (8 * i) n text part)) both
    ∙ take_two_parts front part (post_of (8 * i) n text) (8 * i) (2 * (k % 4)) (length-take-le (8 * i) text room) more
    ∙ ap (λ t. front ++ t) is
    ∙ sym (so_far ∙ ap (λ m. take (8 * m) text ++ shown (k - 4 * m) g) same ∙ ap (λ n. front ++ shown n g) left)
  where
    take_two_parts : (a b c : List ℕ) (m n : ℕ) → length a ≡ m → n ≤ length b → take (m + n) (a ++ (b ++ c)) ≡ a ++ take n b
    take_two_parts a b c m n e h =
        let long : length (a ++ take n b) ≡ m + n = length-append a (take n b) ∙ omega (arith, e, length-take-le n b h) in
        ap (λ xs. take (m + n) (a ++ (xs ++ c))) (sym (take-append-drop n b))
        ∙ ap (λ xs. take (m + n) (a ++ xs)) (append_assoc (take n b) (drop n b) c)
        ∙ ap (λ xs. take (m + n) xs) (sym (append_assoc a (take n b) (drop n b ++ c)))
        ∙ take_at (a ++ take n b) (drop n b ++ c) (m + n) long
