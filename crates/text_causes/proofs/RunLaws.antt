-- Rows that a buffer holds, behind those that wait in a block.
use Rattle.std.proofs.Common.{◌≡◌, ◌∙◌, inl, inr, ℕ, ◌+◌, ◌-◌, ◌/◌, ◌^◌, ◌<◌, ◌≤◌, List, [], ◌++◌, sym, subst, ap, append_assoc, append-nil, arith, bit_and, length, map, take}
use Rattle.std.specs.Int.{bit_at, trailing_zeros, w64}
use Rattle.std.proofs.lemmas.List.{length-take-le, take-append-le}
use Rattle.std.proofs.lemmas.Bool.{cases_lt}
use Rattle.std.proofs.lemmas.List.{map-append}
use Rattle.std.proofs.lemmas.Nat.{zero_from_ones}
use Rattle.std.specs.Prelude.{count_ones}
use Rattle.std.proofs.lemmas.Nat.Bits.{bit_at-lt, bit_at_and}
use Rattle.std.proofs.Math.Pow.{pow_mono}
use Rattle.std.proofs.Math.Nat.{div-eq_of_lt, div-lt_self}
use Rattle.std.proofs.Math.Seq.{take-append-add}
use borrow.Rule.Slice.PartMut.{put_mid, post_of}
use Rattle.search_tree.specs.Marked.{marked}
use Rattle.search_tree.proofs.Bits.{all_marked, all_unmarked, bit_shifted, lowest}
use Rattle.search_tree.proofs.Marks.{lowest_marked, marked_ones, marked_parts, without_lowest}
use Rattle.text_causes.specs.CauseText.{cause_record}
use Rattle.text_causes.specs.Rows.{row, rows}
use Rattle.io_text.specs.Buffer.{SendsAll}
use Rattle.io_text.specs.Log.{PutsPrefix, WriteLog}
use Rattle.io_text.specs.Text.{lines_text}
use Rattle.io_text.proofs.Commas.{lines_text-append}
use Rattle.io_text.proofs.Puts.{puts_none}
use Rattle.io_text.proofs.Sending.{sends_more, sends_prefix, sends_same}

-- a text that a buffer takes
pub buffered : (a : WriteLog) (w held text : List ℕ) → SendsAll a a (w ++ held) (w ++ (held ++ text)) text
buffered a w held text = record { sent = []; cut = append_assoc w held text; wrote = puts_none a }

-- ---- the rows of a mask, from the lowest mark on
pub record Lowest (number mask t : ℕ) : Type 0 where
  pub small : t < 64
  pub one : bit_at mask t ≡ 1
  pub none : (i : ℕ) → i < t → bit_at mask i ≡ 0

pub rows_lowest : (k number mask t : ℕ) → Lowest number mask t → rows k (marked number mask) ≡ row k (number + t) ++ rows k (marked number (bit_and mask (mask - 1)))
rows_lowest k number mask t l = ap (rows k) (lowest_marked number mask t l.small l.none l.one)

-- the marks that are left are above it
pub left_above : (number mask t : ℕ) → Lowest number mask t → (j : ℕ) → bit_at (bit_and mask (mask - 1)) j ≡ 1 → (t < j) × (bit_at mask j ≡ 1)
left_above number mask t l j one =
    let h = without_lowest mask t j l.none l.one in
    elim (cases_lt t j) [
      | inl less ↦ (less, sym (h.1 less) ∙ one)
      | inr more ↦ absurd (let none = h.0 more in omega (arith, none, one))
    ]

-- one row more at the front of a text
pub run_more : (text part one left whole : List ℕ) (used long m : ℕ) → used ≤ length text → long ≤ length part → take long part ≡ one
    → whole ≡ take used text ++ (one ++ left) → whole ≡ take (used + long) (put_mid used m text part) ++ left
run_more text part one left whole used long m room fits is so_far =
    let front = take used text in
    let front_long : length front ≡ used = length-take-le used text room in
    so_far ∙ sym (append_assoc front one left)
    ∙ ap (λ ys. (front ++ ys) ++ left) (sym is)
    ∙ ap (λ ys. (front ++ ys) ++ left) (sym (take-append-le long part (post_of used m text) fits))
    ∙ ap (λ ys. ys ++ left) (sym (take-append-add front (part ++ post_of used m text) long))
    ∙ ap (λ n. take (n + long) (put_mid used m text part) ++ left) front_long

pub rows_both : (k : ℕ) (ns ms : List ℕ) → rows k (ns ++ ms) ≡ rows k ns ++ rows k ms
rows_both k ns ms = ap lines_text (map-append (cause_record k) ns ms) ∙ lines_text-append (map (cause_record k) ns) (map (cause_record k) ms)

-- ---- a text of which a part was sent
pub record Sent (a b : WriteLog) (waited waits whole left : List ℕ) : Type 0 where
  pub done : List ℕ
  pub split : whole ≡ done ++ left
  pub sent : SendsAll a b waited waits done

pub sent_more : (a b c : WriteLog) (w0 w1 w2 whole left more rest : List ℕ) → Sent a b w0 w1 whole left → left ≡ more ++ rest → SendsAll b c w1 w2 more → Sent a c w0 w2 whole rest
sent_more a b c w0 w1 w2 whole left more rest so_far e sent = record {
  done = so_far.done ++ more;
  split = so_far.split ∙ ap (λ ys. so_far.done ++ ys) e ∙ sym (append_assoc so_far.done more rest);
  sent = sends_more a b c w0 w1 w2 so_far.done more so_far.sent sent;
}

pub sent_all : (a b : WriteLog) (w0 w1 whole left : List ℕ) → Sent a b w0 w1 whole left → left ≡ [] → SendsAll a b w0 w1 whole
sent_all a b w0 w1 whole left so_far e =
    sends_same a b w0 w1 so_far.done whole (sym (so_far.split ∙ ap (λ ys. so_far.done ++ ys) e ∙ append-nil so_far.done)) so_far.sent

pub sent_prefix : (a b c : WriteLog) (w0 w1 whole left more rest : List ℕ) → Sent a b w0 w1 whole left → left ≡ more ++ rest → PutsPrefix b c (w1 ++ more) → PutsPrefix a c (w0 ++ whole)
sent_prefix a b c w0 w1 whole left more rest so_far e failed =
    sends_prefix a b c w0 w1 whole so_far.done more rest (so_far.split ∙ ap (λ ys. so_far.done ++ ys) e) so_far.sent failed

pub lowest_of : (number mask t : ℕ) → 0 < mask → mask < 2 ^ 64 → t ≡ trailing_zeros w64 mask → Lowest number mask t
lowest_of number mask t some fits e =
    let h = lowest mask some fits in
    let l : Lowest number mask (trailing_zeros w64 mask) = record { small = h.0; one = h.1; none = h.2 } in
    subst (λ (n : ℕ). Lowest number mask n) (sym e) l

-- ---- a mask in two parts
pub rows_parts : (k number mask low place c : ℕ) → c ≤ 64 → mask < 2 ^ 64 → ((j : ℕ) → j < c → bit_at low j ≡ bit_at mask j) → ((j : ℕ) → c ≤ j → bit_at low j ≡ 0)
    → rows k (marked (number + place) mask) ≡ rows k (marked (number + place) low) ++ rows k (marked (number + (place + c)) (mask / 2 ^ c))
rows_parts k number mask low place c small fits kept gone =
    let there : number + place + c ≡ number + (place + c) = omega arith in
    ap (rows k) (marked_parts (number + place) mask low c small fits kept gone)
    ∙ rows_both k (marked (number + place) low) (marked (number + place + c) (mask / 2 ^ c))
    ∙ ap (λ n. rows k (marked (number + place) low) ++ rows k (marked n (mask / 2 ^ c))) there

pub first_of : (mask c j : ℕ) → 0 < c → c ≤ 64 → (j < c → bit_at (bit_and mask (18446744073709551615 / 2 ^ (64 - c))) j ≡ bit_at mask j)
    × (c ≤ j → bit_at (bit_and mask (18446744073709551615 / 2 ^ (64 - c))) j ≡ 0)
first_of mask c j some small =
    let both = bit_at_and mask (18446744073709551615 / 2 ^ (64 - c)) j in
    let there = bit_shifted 18446744073709551615 (64 - c) j in (
      λ low. let one = all_marked (j + (64 - c)) (omega (arith, low, small)) in omega (arith, both, there, one, bit_at-lt mask j),
      λ high. let none = all_unmarked (j + (64 - c)) (omega (arith, high, small)) in omega (arith, both, there, none),
    )

pub later_smaller : (mask c : ℕ) → 0 < mask → 0 < c → mask / 2 ^ c < mask
later_smaller mask c some more =
    let two : 2 ^ 1 ≤ 2 ^ c = pow_mono {i = 1} {j = c} (omega (arith, more)) in
    div-lt_self some (omega (arith, two))

-- marks are left, so not all places are passed
pub place_small : (mask left place : ℕ) → mask < 2 ^ 64 → left ≡ mask / 2 ^ place → 0 < left → place < 64
place_small mask left place fits e some = elim (cases_lt place 64) [
  | inl less ↦ less
  | inr more ↦
      let big : 2 ^ 64 ≤ 2 ^ place = pow_mono {i = 64} {j = place} more in
      let none : mask / 2 ^ place ≡ 0 = div-eq_of_lt (omega (arith, fits, big)) in
      absurd (omega (arith, none, e, some))
]

-- some number is marked
pub some_marked : (number mask : ℕ) → 0 < mask → mask < 2 ^ 64 → 0 < length (marked number mask)
some_marked number mask some fits =
    let ones = marked_ones number mask fits in
    elim (cases_lt 0 (count_ones mask)) [
      | inl less ↦ omega (arith, ones, less)
      | inr none ↦ absurd (let zero = zero_from_ones mask (omega (arith, none)) in omega (arith, zero, some))
    ]

-- ---- a buffer that was empty before and is so after
