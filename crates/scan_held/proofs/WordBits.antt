-- The word of the Qs, made bit by bit from the lowest on.
use Rattle.std.proofs.Common.{◌≡◌, ◌∙◌, ◌<◌, ◌≤◌, ◌≢◌, ◌+◌, ◌*◌, ◌^◌, ◌%◌, ℕ, Bool, true, false, cond, List, map, get_or, length, ap, sym, arith, below_more, bit_or, w64}
use Rattle.std.proofs.Math.ListN.{get_or-map}
use Rattle.std.proofs.lemmas.List.FromFn.{fill_by_all}
use Rattle.std.proofs.lemmas.Nat.Bits.{bit_at_set_same, bit_at_set_other, same_from_bits_below}
use Rattle.std.proofs.lemmas.Simd.{bit_mask_l}
use Rattle.std.specs.Int.{bit_at}
use Rattle.std.specs.Simd.Lanes.{mask_l}
use Rattle.diagram_declarations.specs.declared.kind.BlockKind.TheVariants.{Ton}
use Rattle.scan_signals.specs.declared.block.Stored.{Stored}
use Rattle.scan_signals.specs.Blocks.{new_block, q_of}
use Rattle.scan_signals.specs.Words.{word}
use Rattle.scan_signals.specs.declared.word.Word64.{Word64}
use Rattle.scan_held.specs.Lanes.{apart, q_word}
use Rattle.scan_held.specs.LanesLaws.{q_word_small}
use Rattle.scan_held.specs.declared.lanes.Lanes.TheVariants.{Apart}

-- one bit more, from the lowest on
module _ (q : ℕ → Bool) (word next place : ℕ) (within : place < 64) (below : (i : ℕ) → i < place → bit_at word i ≡ cond (q i) 1 0)
    (above : (i : ℕ) → place ≤ i → bit_at word i ≡ 0) where
  pub set_below : q place ≡ true → next ≡ bit_or word (1 * 2 ^ place % 2 ^ 64) → (i : ℕ) → i < place + 1 → bit_at next i ≡ cond (q i) 1 0
  set_below on is = below_more (λ i. bit_at next i ≡ cond (q i) 1 0) place
      (λ i h. let other : i ≢ place = omega arith in ap (λ n. bit_at n i) is ∙ bit_at_set_other w64 word place within i other ∙ below i h)
      (ap (λ n. bit_at n place) is ∙ bit_at_set_same w64 word place within ∙ sym (ap (λ (b : Bool). cond b 1 0) on))

  pub set_above : next ≡ bit_or word (1 * 2 ^ place % 2 ^ 64) → (i : ℕ) → place + 1 ≤ i → bit_at next i ≡ 0
  set_above is i h =
      let other : i ≢ place = omega arith in
      ap (λ n. bit_at n i) is ∙ bit_at_set_other w64 word place within i other ∙ above i (omega arith)

  pub left_below : q place ≡ false → next ≡ word → (i : ℕ) → i < place + 1 → bit_at next i ≡ cond (q i) 1 0
  left_below off is = below_more (λ i. bit_at next i ≡ cond (q i) 1 0) place
      (λ i h. ap (λ n. bit_at n i) is ∙ below i h)
      (ap (λ n. bit_at n place) is ∙ above place (omega arith) ∙ sym (ap (λ (b : Bool). cond b 1 0) off))

  pub left_above : next ≡ word → (i : ℕ) → place + 1 ≤ i → bit_at next i ≡ 0
  left_above is i h = ap (λ n. bit_at n i) is ∙ above i (omega arith)

-- a word with the bits of the Qs is theirs
pub all_bits : (ss : List Stored) (n : ℕ) → length ss ≡ 64 → n < 2 ^ 64 → ((i : ℕ) → i < 64 → bit_at n i ≡ cond (q_of (get_or ss i (new_block Ton))) 1 0)
    → n ≡ mask_l (map q_of ss)
all_bits ss n long small each = same_from_bits_below 64 n (mask_l (map q_of ss)) small (q_word_small ss long)
    (λ i h. each i h ∙ ap (λ (b : Bool). cond b 1 0) (sym (get_or-map q_of ss i (new_block Ton))) ∙ sym (bit_mask_l (map q_of ss) i))

-- ---- each lane's own
pub are_apart : (f : ℕ → Stored) (ss : List Stored) (q : Word64) → length ss ≡ 64 → q ≡ q_word ss
    → ((i : ℕ) → i < 64 → get_or ss i (new_block Ton) ≡ f i) → Apart q ss ≡ apart f
unfolding apart
are_apart f ss q long word each =
    ap (λ x. Apart x ss) word ∙ ap (λ ts. Apart (q_word ts) ts) (fill_by_all f ss 64 (new_block Ton) long each)

pub apart_by_bits : (f : ℕ → Stored) (ss : List Stored) (n : ℕ) → length ss ≡ 64 → n < 2 ^ 64
    → ((i : ℕ) → i < 64 → get_or ss i (new_block Ton) ≡ f i) → ((i : ℕ) → i < 64 → bit_at n i ≡ cond (q_of (f i)) 1 0) → Apart (word n) ss ≡ apart f
apart_by_bits f ss n long small each bits = are_apart f ss (word n) long
    (ap word (all_bits ss n long small (λ i h. bits i h ∙ ap (λ (s : Stored). cond (q_of s) 1 0) (sym (each i h))))) each
