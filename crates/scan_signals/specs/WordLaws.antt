-- Private to the signal of 64 places: its laws.
use Rattle.std.specs.Prelude.{◌≡◌, ℕ, ◌-◌, ◌^◌, ◌<◌, Bool, true, false, not, ◌&&◌, ◌||◌, if◌then◌else◌, max, min, refl, bit_and, bit_or}
use Rattle.std.specs.Int.{bit_at, bit_not, w64}
use Rattle.std.proofs.Common.{arith, sym, ap, ◌∙◌, lit<, zero, suc}
use Rattle.std.proofs.lemmas.Nat.{or_comm, and_comm, or_lt, and_le_l, and_le_r}
use Rattle.std.proofs.lemmas.Nat.Bits.{bit_at_and, bit_at_or, bit_at_not, same_from_bits, same_from_bits_below, bit_at-lt, bit_at_ones, bit_at-zero}
use Rattle.scan_signals.specs.Algebra.{LatticeLaws, AllowsLaws}
use Rattle.scan_signals.specs.Words.{IsBit, IsWord, word, word_allows, words}
use Rattle.scan_signals.specs.declared.word.Word64.{Word64}

-- ---- the bits of each operation; the numbers below 2 ^ 64
not_lt : (n : ℕ) → bit_not w64 n < 2 ^ 64
not_lt n = omega arith

and_lt : (a b : ℕ) → a < 2 ^ 64 → bit_and a b < 2 ^ 64
and_lt a b h = omega (arith, and_le_l a b)

not_bit : (n i : ℕ) → n < 2 ^ 64 → i < 64 → bit_at (bit_not w64 n) i ≡ 1 - bit_at n i
not_bit n i h k = bit_at_not w64 n i h k

on_bit : (i : ℕ) → i < 64 → bit_at (2 ^ 64 - 1) i ≡ 1
on_bit i h = bit_at_ones 64 i h

one_less_max : (a b c d e f : ℕ) → f ≡ 1 - e → e ≡ max a b → c ≡ 1 - a → d ≡ 1 - b → f ≡ min c d
one_less_max a b c d e f h i j k = omega arith

one_less_min : (a b c d e f : ℕ) → f ≡ 1 - e → e ≡ min a b → c ≡ 1 - a → d ≡ 1 - b → f ≡ max c d
one_less_min a b c d e f h i j k = omega arith

not_or : (x y : ℕ) → x < 2 ^ 64 → y < 2 ^ 64 → bit_not w64 (bit_or x y) ≡ bit_and (bit_not w64 x) (bit_not w64 y)
not_or x y vx vy = same_from_bits_below 64 _ _ (not_lt (bit_or x y)) (and_lt (bit_not w64 x) (bit_not w64 y) (not_lt x))
    (λ i h. one_less_max _ _ _ _ _ _ (not_bit (bit_or x y) i (or_lt 64 x y vx vy) h) (bit_at_or x y i) (not_bit x i vx h) (not_bit y i vy h) ∙ sym (bit_at_and (bit_not w64 x) (bit_not w64 y) i))

not_and : (x y : ℕ) → x < 2 ^ 64 → y < 2 ^ 64 → bit_not w64 (bit_and x y) ≡ bit_or (bit_not w64 x) (bit_not w64 y)
not_and x y vx vy = same_from_bits_below 64 _ _ (not_lt (bit_and x y)) (or_lt 64 (bit_not w64 x) (bit_not w64 y) (not_lt x) (not_lt y))
    (λ i h. one_less_min _ _ _ _ _ _ (not_bit (bit_and x y) i (and_lt x y vx) h) (bit_at_and x y i) (not_bit x i vx h) (not_bit y i vy h) ∙ sym (bit_at_or (bit_not w64 x) (bit_not w64 y) i))

choose_lt : (c x y : ℕ) → x < 2 ^ 64 → y < 2 ^ 64 → bit_or (bit_and c x) (bit_and (bit_not w64 c) y) < 2 ^ 64
choose_lt c x y vx vy =
    let p : bit_and c x < 2 ^ 64 = omega (arith, and_le_r c x) in
    let q : bit_and (bit_not w64 c) y < 2 ^ 64 = omega (arith, and_le_r (bit_not w64 c) y) in
    or_lt 64 _ _ p q

picked : (c x y n r s t : ℕ) → c < 2 → x < 2 → y < 2 → n ≡ 1 - c → r ≡ min c x → s ≡ min n y → t ≡ max r s → (c ≡ 1 → t ≡ x) × (c ≡ 0 → t ≡ y) × (x ≡ y → t ≡ x)
picked c x y n r s t hc hx hy h i j k = (λ e. omega arith, λ e. omega arith, λ e. omega arith)

-- what a choice has at a place
choose_bit : (c x y i : ℕ) → c < 2 ^ 64 → i < 64 →
    let t = bit_at (bit_or (bit_and c x) (bit_and (bit_not w64 c) y)) i in
    (bit_at c i ≡ 1 → t ≡ bit_at x i) × (bit_at c i ≡ 0 → t ≡ bit_at y i) × (bit_at x i ≡ bit_at y i → t ≡ bit_at x i)
choose_bit c x y i vc h = picked (bit_at c i) (bit_at x i) (bit_at y i) _ _ _ _ (bit_at-lt c i) (bit_at-lt x i) (bit_at-lt y i)
    (not_bit c i vc h) (bit_at_and c x i) (bit_at_and (bit_not w64 c) y i) (bit_at_or (bit_and c x) (bit_and (bit_not w64 c) y) i)

and_on : (x : ℕ) → x < 2 ^ 64 → bit_and (2 ^ 64 - 1) x ≡ x
and_on x vx = same_from_bits_below 64 _ _ (omega (arith, and_le_r (2 ^ 64 - 1) x)) vx
    (λ i h. bit_at_and (2 ^ 64 - 1) x i ∙ ap (λ n. min n (bit_at x i)) (on_bit i h) ∙ omega (arith, bit_at-lt x i))

pub words_lattice : LatticeLaws Word64 IsWord words
words_lattice = record {
  known_value = elim [ true ↦ lit< tt | false ↦ lit< tt ];
  join_value = λ x y vx vy. or_lt 64 x.0 y.0 vx vy;
  meet_value = λ x y vx vy. and_lt x.0 y.0 vx;
  inverse_value = λ x vx. not_lt x.0;
  choice_value = λ c x y vc vx vy. choose_lt c.0 x.0 y.0 vx vy;
  join_assoc = λ x y z vx vy vz. ap word (same_from_bits _ _ (λ i. simp bit_at_or (omega arith)));
  meet_assoc = λ x y z vx vy vz. ap word (same_from_bits _ _ (λ i. simp bit_at_and (omega arith)));
  join_comm = λ x y vx vy. ap word (or_comm x.0 y.0);
  meet_comm = λ x y vx vy. ap word (and_comm x.0 y.0);
  join_idem = λ x vx. ap word (same_from_bits _ _ (λ i. simp bit_at_or (omega arith)));
  meet_idem = λ x vx. ap word (same_from_bits _ _ (λ i. simp bit_at_and (omega arith)));
  join_absorbs = λ x y vx vy. ap word (same_from_bits _ _ (λ i. simp (bit_at_and, bit_at_or) (omega arith)));
  meet_absorbs = λ x y vx vy. ap word (same_from_bits _ _ (λ i. simp (bit_at_and, bit_at_or) (omega arith)));
  meet_over_join = λ x y z vx vy vz. ap word (same_from_bits _ _ (λ i. simp (bit_at_and, bit_at_or) (omega arith)));
  join_over_meet = λ x y z vx vy vz. ap word (same_from_bits _ _ (λ i. simp (bit_at_and, bit_at_or) (omega arith)));
  inverse_twice = λ x vx. ap word (omega arith);
  inverse_join = λ x y vx vy. ap word (not_or x.0 y.0 vx vy);
  inverse_meet = λ x y vx vy. ap word (not_and x.0 y.0 vx vy);
  join_off = λ x vx. ap word (same_from_bits _ _ (λ i. simp (bit_at_or, bit_at-zero) (omega arith)));
  meet_on = λ x vx. ap word (and_on x.0 vx);
  choice_on = λ x y vx vy. ap word (same_from_bits_below 64 _ _ (choose_lt (2 ^ 64 - 1) x.0 y.0 vx vy) vx (λ i h. (choose_bit (2 ^ 64 - 1) x.0 y.0 i (lit< tt) h).0 (on_bit i h)));
  choice_off = λ x y vx vy. ap word (same_from_bits_below 64 _ _ (choose_lt 0 x.0 y.0 vx vy) vy (λ i h. (choose_bit 0 x.0 y.0 i (lit< tt) h).1 (bit_at-zero i)));
  choice_equal = λ c x vc vx. ap word (same_from_bits_below 64 _ _ (choose_lt c.0 x.0 x.0 vx vx) vx (λ i h. (choose_bit c.0 x.0 x.0 i vc h).2 refl));
}

known_at : (b : Bool) (p : ℕ) → p < 64 → bit_at (if b then (2 ^ 64 - 1) else 0) p ≡ if b then 1 else 0
known_at true p h = on_bit p h
known_at false p h = bit_at-zero p

same_digit : (b c : Bool) (n : ℕ) → n ≡ if b then 1 else 0 → n ≡ if c then 1 else 0 → c ≡ b
same_digit true true n h k = refl
same_digit true false n h k = absurd (omega arith)
same_digit false true n h k = absurd (omega arith)
same_digit false false n h k = refl

or_digit : (a b : Bool) (m n : ℕ) → m ≡ if a then 1 else 0 → n ≡ if b then 1 else 0 → max m n ≡ if (a || b) then 1 else 0
or_digit true true m n h k = omega arith
or_digit true false m n h k = omega arith
or_digit false true m n h k = omega arith
or_digit false false m n h k = omega arith

and_digit : (a b : Bool) (m n : ℕ) → m ≡ if a then 1 else 0 → n ≡ if b then 1 else 0 → min m n ≡ if (a && b) then 1 else 0
and_digit true true m n h k = omega arith
and_digit true false m n h k = omega arith
and_digit false true m n h k = omega arith
and_digit false false m n h k = omega arith

not_digit : (a : Bool) (m : ℕ) → m ≡ if a then 1 else 0 → 1 - m ≡ if (not a) then 1 else 0
not_digit true m h = omega arith
not_digit false m h = omega arith

choose_digit : (a b c : Bool) (l m n t : ℕ) → l ≡ if a then 1 else 0 → m ≡ if b then 1 else 0 → n ≡ if c then 1 else 0 → (l ≡ 1 → t ≡ m) × (l ≡ 0 → t ≡ n) × (m ≡ n → t ≡ m) → t ≡ if (if a then b else c) then 1 else 0
choose_digit true b c l m n t h i j k = k.0 h ∙ i
choose_digit false b c l m n t h i j k = k.1 h ∙ j

some_bit : (n : ℕ) → n < 2 → (b : Bool) × (n ≡ (if b then 1 else 0))
some_bit zero h = (false, refl)
some_bit (suc zero) h = (true, refl)
some_bit (suc (suc n)) h = absurd (omega (arith, h))

pub words_allowed : AllowsLaws Word64 IsWord words IsBit word_allows
words_allowed = record {
  some_place = (0, lit< tt);
  some_allowed = λ x p v h. some_bit (bit_at x.0 p) (bit_at-lt x.0 p);
  known_allows = λ b p h. known_at b p h;
  known_only = λ b c p h a. same_digit b c _ (known_at b p h) a;
  join_allows = λ x y p a b vx vy h ax ay. bit_at_or x.0 y.0 p ∙ or_digit a b _ _ ax ay;
  meet_allows = λ x y p a b vx vy h ax ay. bit_at_and x.0 y.0 p ∙ and_digit a b _ _ ax ay;
  inverse_allows = λ x p a vx h ax. not_bit x.0 p vx h ∙ not_digit a _ ax;
  choice_allows = λ x y z p a b c vx vy vz h ax ay az. choose_digit a b c _ _ _ _ ax ay az (choose_bit x.0 y.0 z.0 p vx h);
}

pub words_choice_known : (c : Word64) (b : Bool) → IsWord c → words.choice c (words.known b) (words.known b) ≡ words.known b
words_choice_known c b v = words_lattice.choice_equal c (words.known b) v (words_lattice.known_value b)
