-- Each lane goes on as by itself.
use Rattle.std.proofs.Common.{◌≡◌, ◌∙◌, ◌<◌, ℕ, ◌-◌, ◌^◌, Bool, true, false, not, cond, if◌then◌else◌, ◌||◌, ◌⊎◌, inl, inr, List, map, get_or, refl, sym, ap, ap₂, subst, arith, ◌==◌, ◌&&◌, length, lit<}
use Rattle.std.proofs.Math.ListN.{get_or-map}
use Rattle.std.proofs.lemmas.Nat.Bits.{bit_at-lt, bit_at-zero, bit_at_ones}
use Rattle.std.proofs.lemmas.Bool.Decides.{nat_tests}
use Rattle.std.proofs.lemmas.List.{length-map}
use Rattle.std.proofs.lemmas.List.FromFn.{get_or-map-range_with_len, length-map-range_with_len}
use Rattle.std.proofs.lemmas.Simd.{bit_mask_l, mask_l-lt}
use Rattle.std.specs.Int.{bit_at}
use Rattle.std.specs.List.{range_with_len}
use Rattle.std.specs.Simd.Lanes.{mask_l}
use Rattle.diagram_declarations.specs.declared.kind.BlockKind.{BlockKind}
use Rattle.diagram_declarations.specs.declared.kind.BlockKind.TheVariants.{Ton}
use Rattle.scan_signals.specs.declared.block.Stored.{Stored}
use Rattle.scan_signals.specs.Blocks.{step, q_of, new_block}
use Rattle.scan_signals.specs.Relations.{AllowsAt}
use Rattle.scan_cycle.specs.Cells.{Diagram}
use Rattle.scan_partial.specs.KeepsValues.{KeepsValues}
use Rattle.scan_symbolic.specs.KnownLaws.{StepsKeep}
use Rattle.scan_symbolic.specs.KnownScan.{plainly}
use Rattle.scan_signals.specs.WordLaws.{words_allowed, words_lattice}
use Rattle.scan_signals.specs.Words.{IsBit, IsWord, word, word_allows, words}
use Rattle.scan_signals.specs.declared.word.Word64.{Word64}
use Rattle.scan_held.specs.Lanes.{all_on, any_on, apart, are_alike, are_two, bit, chosen, choice_lanes, follows, is_whole, lanes, off_of, on_of, parting, q_lanes, q_word, step_lanes, stepped, stored_in, two, word_of}
use Rattle.scan_held.specs.declared.lanes.Lanes.{Lanes}
use Rattle.scan_held.specs.declared.lanes.Lanes.TheVariants.{Alike, Two, Apart}

-- The word that tells which of two the lanes store, and any word where none does.
abbrev parted_by : Lanes → Word64
parted_by (Two q m s t) = m
parted_by b = words.known false

-- Lane p stores this, and has its Q.
pub record IsInLane (p : ℕ) (b : Lanes) (s : Stored) : Type 0 where
  pub word : IsWord (q_lanes b)
  pub parted : IsWord (parted_by b)
  pub stored : p < 64 → stored_in b p ≡ s
  pub q : p < 64 → word_allows (q_lanes b) p (q_of s)

-- ---- one lane of a word
digit_is : (n : ℕ) (b : Bool) → n ≡ cond b 1 0 → (n == 1) ≡ b
digit_is n true e = ap (λ m. m == 1) e
digit_is n false e = ap (λ m. m == 1) e

pub bit_is : (x : Word64) (p : ℕ) (b : Bool) → word_allows x p b → bit x p ≡ b
bit_is x p b h = digit_is (bit_at x.0 p) b h

is_number : (n m : ℕ) → (n == m) ≡ true → n ≡ m
is_number n m e = grind (arith, nat_tests)

whole_zero : (n p : ℕ) → n ≡ 0 → (bit_at n p == 1) ≡ false
whole_zero n p e = ap (λ m. bit_at m p == 1) e ∙ ap (λ m. m == 1) (bit_at-zero p)

whole_one : (n p : ℕ) → p < 64 → n ≡ 2 ^ 64 - 1 → (bit_at n p == 1) ≡ true
whole_one n p h e = ap (λ m. bit_at m p == 1) e ∙ ap (λ m. m == 1) (bit_at_ones 64 p h)

whole_cases : (n : ℕ) → ((n == 0) || (n == 2 ^ 64 - 1)) ≡ true → (n ≡ 0) ⊎ (n ≡ 2 ^ 64 - 1)
whole_cases n e = grind (arith, nat_tests)

whole_bit : (x : Word64) (p : ℕ) → p < 64 → is_whole x ≡ true → bit x p ≡ bit x 0
whole_bit x p h e = elim (whole_cases x.0 e) [
  | inl zero ↦ whole_zero x.0 p zero ∙ sym (whole_zero x.0 0 zero)
  | inr ones ↦ whole_one x.0 p h ones ∙ sym (whole_one x.0 0 (lit< tt) ones)
]

-- ---- each lane's own
q_at : (ss : List Stored) (p : ℕ) → get_or (map q_of ss) p false ≡ q_of (get_or ss p (new_block Ton))
q_at ss p = get_or-map q_of ss p (new_block Ton)

pub q_word_small : (ss : List Stored) → length ss ≡ 64 → IsWord (q_word ss)
q_word_small ss e = subst (λ n. mask_l (map q_of ss) < 2 ^ n) (length-map ss q_of ∙ e) (mask_l-lt (map q_of ss))

apart_word : (f : ℕ → Stored) → IsWord (q_lanes (apart f))
unfolding apart
apart_word f = q_word_small (map f (range_with_len 0 64)) (length-map-range_with_len f 0 64)

pub apart_lane : (f : ℕ → Stored) (p : ℕ) → p < 64 → stored_in (apart f) p ≡ f p
unfolding apart
apart_lane f p h = get_or-map-range_with_len f 0 64 p p (new_block Ton) h (omega arith)

apart_parted : (f : ℕ → Stored) → IsWord (parted_by (apart f))
unfolding apart
apart_parted f = words_lattice.known_value false

apart_q : (f : ℕ → Stored) (p : ℕ) → p < 64 → word_allows (q_lanes (apart f)) p (q_of (f p))
unfolding apart
apart_q f p h =
    let ss = map f (range_with_len 0 64) in
    bit_mask_l (map q_of ss) p ∙ ap (λ b. cond b 1 0) (q_at ss p ∙ ap q_of (get_or-map-range_with_len f 0 64 p p (new_block Ton) h (omega arith)))

in_apart : (f : ℕ → Stored) (p : ℕ) (s : Stored) → (p < 64 → f p ≡ s) → IsInLane p (apart f) s
in_apart f p s e = record {
  word = apart_word f;
  parted = apart_parted f;
  stored = λ h. apart_lane f p h ∙ e h;
  q = λ h. subst (λ t. word_allows (q_lanes (apart f)) p (q_of t)) (e h) (apart_q f p h);
}

pub in_alike : (t : Stored) (p : ℕ) (s : Stored) → (p < 64 → t ≡ s) → IsInLane p (Alike t) s
in_alike t p s e = record {
  word = words_lattice.known_value (q_of t);
  parted = words_lattice.known_value false;
  stored = e;
  q = λ h. subst (λ u. word_allows (q_lanes (Alike t)) p (q_of u)) (e h) (words_allowed.known_allows (q_of t) p h);
}

-- ---- one of two
is_bit : (n : ℕ) → n < 2 → n ≡ cond (n == 1) 1 0
is_bit n small = grind (arith, nat_tests)

allows_bit : (x : Word64) (p : ℕ) → word_allows x p (bit x p)
allows_bit x p = is_bit (bit_at x.0 p) (bit_at-lt x.0 p)

q_side : (k : Bool) (s t : Stored) → cond k (q_of s) (q_of t) ≡ q_of (cond k s t)
q_side true s t = refl
q_side false s t = refl

two_q : (m : Word64) (s t : Stored) (p : ℕ) → IsWord m → p < 64 → word_allows (q_lanes (two m s t)) p (q_of (cond (bit m p) s t))
two_q m s t p w h = subst (λ (b : Bool). word_allows (q_lanes (two m s t)) p b) (q_side (bit m p) s t)
    (words_allowed.choice_allows m (words.known (q_of s)) (words.known (q_of t)) p (bit m p) (q_of s) (q_of t) w
    (words_lattice.known_value (q_of s)) (words_lattice.known_value (q_of t)) h (allows_bit m p)
    (words_allowed.known_allows (q_of s) p h) (words_allowed.known_allows (q_of t) p h))

two_word : (m : Word64) (s t : Stored) → IsWord m → IsWord (q_lanes (two m s t))
two_word m s t w = words_lattice.choice_value m (words.known (q_of s)) (words.known (q_of t)) w (words_lattice.known_value (q_of s)) (words_lattice.known_value (q_of t))

in_two : (m : Word64) (s t : Stored) (p : ℕ) (u : Stored) → IsWord m → (p < 64 → cond (bit m p) s t ≡ u) → IsInLane p (two m s t) u
in_two m s t p u w e = record {
  word = two_word m s t w;
  parted = w;
  stored = e;
  q = λ h. subst (λ (r : Stored). word_allows (q_lanes (two m s t)) p (q_of r)) (e h) (two_q m s t p w h);
}

-- a word that follows another one is, in each lane, as it is in all lanes of that side
zero_side : (k : Bool) (x : ℕ) → x ≡ 0 → false ≡ cond k (not (x == 0)) (x == 2 ^ 64 - 1)
zero_side true x e = rw e refl
zero_side false x e = rw e refl

ones_side : (k : Bool) (x : ℕ) → x ≡ 2 ^ 64 - 1 → true ≡ cond k (not (x == 0)) (x == 2 ^ 64 - 1)
ones_side true x e = rw e refl
ones_side false x e = rw e refl

own_side : (k : Bool) (x p : ℕ) → p < 64 → (bit_at x p == 1) ≡ k → k ≡ cond k (not (x == 0)) (x == 2 ^ 64 - 1)
own_side true x p h e = not_zero (x == 0) (λ z. whole_zero x p (is_number x 0 z)) e
  where
    not_zero : (b : Bool) → (b ≡ true → (bit_at x p == 1) ≡ false) → (bit_at x p == 1) ≡ true → true ≡ not b
    not_zero true f g = sym g ∙ f refl
    not_zero false f g = refl
own_side false x p h e = not_ones (x == 2 ^ 64 - 1) (λ o. whole_one x p h (is_number x (2 ^ 64 - 1) o)) e
  where
    not_ones : (b : Bool) → (b ≡ true → (bit_at x p == 1) ≡ true) → (bit_at x p == 1) ≡ false → false ≡ b
    not_ones true f g = sym g ∙ f refl
    not_ones false f g = refl

follows_cases : (w e : Bool) → (w || e) ≡ true → (w ≡ true) ⊎ (e ≡ true)
follows_cases true e h = inl refl
follows_cases false e h = inr h

side_bit : (x m : Word64) (p : ℕ) → p < 64 → follows x m ≡ true → bit x p ≡ cond (bit m p) (any_on x) (all_on x)
side_bit x m p h f = elim (follows_cases (is_whole x) (x.0 == m.0) f) [
  | inl whole ↦ elim (whole_cases x.0 whole) [
    | inl zero ↦ whole_zero x.0 p zero ∙ zero_side (bit m p) x.0 zero
    | inr ones ↦ whole_one x.0 p h ones ∙ ones_side (bit m p) x.0 ones
  ]
  | inr same ↦
      let e : x.0 ≡ m.0 = is_number x.0 m.0 same in
      let here : bit x p ≡ bit m p = ap (λ (n : ℕ). bit_at n p == 1) e in
      here ∙ own_side (bit m p) x.0 p h here
]

-- ---- steps and choices
both_true : (a b c : Bool) → (a && (b && c)) ≡ true → (a ≡ true) × (b ≡ true) × (c ≡ true)
both_true true true true e = (refl, refl, refl)
both_true _ _ _ e = cc

same_lane : (b : Lanes) (p : ℕ) → are_alike b ≡ true → stored_in b 0 ≡ stored_in b p
same_lane (Alike s) p e = refl
same_lane (Two q m s t) p e = cc
same_lane (Apart q ss) p e = cc

-- where the lanes and the inputs are alike, so are the steps
same_step : (kind : BlockKind) (preset : ℕ) (b : Lanes) (x y : Word64) (now p : ℕ) → p < 64
    → (are_alike b && (is_whole x && is_whole y)) ≡ true → stepped kind preset b x y now 0 ≡ stepped kind preset b x y now p
same_step kind preset b x y now p h e =
    let all = both_true (are_alike b) (is_whole x) (is_whole y) e in
    ap (λ (s : Stored). step kind preset s (bit x 0) (bit y 0) now) (same_lane b p all.0)
    ∙ ap₂ (λ (u v : Bool). step kind preset (stored_in b p) u v now) (sym (whole_bit x p h all.1)) (sym (whole_bit y p h all.2))

-- where the lanes store one of two, and the inputs follow the word that tells which, each lane makes the step of its side
side_stored : (b : Lanes) (x y : Word64) (p : ℕ) → are_two b ≡ true → stored_in b p ≡ cond (bit (word_of b x y) p) (on_of b) (off_of b)
side_stored (Alike s) x y p e = same_sides (bit (parting x y) p)
  where
    same_sides : (k : Bool) → s ≡ cond k s s
    same_sides true = refl
    same_sides false = refl
side_stored (Two q m s t) x y p e = refl
side_stored (Apart q ss) x y p e = cc

side_step : (kind : BlockKind) (preset now : ℕ) (k : Bool) (s t r : Stored) (a a1 a2 b b1 b2 : Bool) → r ≡ cond k s t → a ≡ cond k a1 a2 → b ≡ cond k b1 b2
    → cond k (step kind preset s a1 b1 now) (step kind preset t a2 b2 now) ≡ step kind preset r a b now
side_step kind preset now true s t r a a1 a2 b b1 b2 stored first second =
    sym (ap (λ (u : Stored). step kind preset u a b now) stored ∙ ap₂ (λ (u v : Bool). step kind preset s u v now) first second)
side_step kind preset now false s t r a a1 a2 b b1 b2 stored first second =
    sym (ap (λ (u : Stored). step kind preset u a b now) stored ∙ ap₂ (λ (u v : Bool). step kind preset t u v now) first second)

two_step : (kind : BlockKind) (preset : ℕ) (b : Lanes) (x y : Word64) (now p : ℕ) → p < 64
    → (are_two b && (follows x (word_of b x y) && follows y (word_of b x y))) ≡ true
    → cond (bit (word_of b x y) p) (step kind preset (on_of b) (any_on x) (any_on y) now) (step kind preset (off_of b) (all_on x) (all_on y) now)
    ≡ stepped kind preset b x y now p
two_step kind preset b x y now p h e =
    let m = word_of b x y in
    let all = both_true (are_two b) (follows x m) (follows y m) e in
    side_step kind preset now (bit m p) (on_of b) (off_of b) (stored_in b p) (bit x p) (any_on x) (all_on x) (bit y p) (any_on y) (all_on y)
    (side_stored b x y p all.0) (side_bit x m p h all.1) (side_bit y m p h all.2)

one_of : (k : Bool) (x y : Word64) → IsWord x → IsWord y → IsWord (if k then y else x)
one_of true x y first second = second
one_of false x y first second = first

word_is : (b : Lanes) (x y : Word64) → IsWord (parted_by b) → IsWord x → IsWord y → IsWord (word_of b x y)
word_is (Two q m s t) x y w first second = w
word_is (Alike s) x y w first second = one_of (is_whole x) x y first second
word_is (Apart q ss) x y w first second = one_of (is_whole x) x y first second

in_either : (c d : Bool) (f : ℕ → Stored) (m : Word64) (t u : Stored) (p : ℕ) (s : Stored) → IsWord m → (c ≡ true → p < 64 → f 0 ≡ f p)
    → (d ≡ true → p < 64 → cond (bit m p) t u ≡ f p) → (p < 64 → f p ≡ s) → IsInLane p (if c then Alike (f 0) else (if d then two m t u else apart f)) s
in_either true d f m t u p s w same sides e = in_alike (f 0) p s (λ h. same refl h ∙ e h)
in_either false true f m t u p s w same sides e = in_two m t u p s w (λ h. sides refl h ∙ e h)
in_either false false f m t u p s w same sides e = in_apart f p s e

step_in_lane : (kind : BlockKind) (preset : ℕ) (b : Lanes) (x y : Word64) (now p : ℕ) (s : Stored) (u v : Bool)
    → IsInLane p b s → AllowsAt IsWord IsBit word_allows p x u → AllowsAt IsWord IsBit word_allows p y v
    → IsInLane p (step_lanes kind preset b x y now) (step kind preset s u v now)
step_in_lane kind preset b x y now p s u v r first second =
    let m = word_of b x y in
    in_either (are_alike b && (is_whole x && is_whole y)) (are_two b && (follows x m && follows y m)) (stepped kind preset b x y now) m
    (step kind preset (on_of b) (any_on x) (any_on y) now) (step kind preset (off_of b) (all_on x) (all_on y) now) p (step kind preset s u v now)
    (word_is b x y r.parted first.0 second.0)
    (λ e h. same_step kind preset b x y now p h e)
    (λ e h. two_step kind preset b x y now p h e)
    (λ h. ap (λ (t : Stored). step kind preset t (bit x p) (bit y p) now) (r.stored h)
    ∙ ap₂ (λ (k l : Bool). step kind preset s k l now) (bit_is x p u (first.1 h)) (bit_is y p v (second.1 h)))

-- what a choice leaves: one side, where the condition is the same in all lanes, or both
module _ (g : Word64) (h : Bool) (b c : Lanes) (s t : Stored) (p : ℕ) (condition : AllowsAt IsWord IsBit word_allows p g h) (on : IsInLane p b s) (off : IsInLane p c t) where
  chosen_is : p < 64 → chosen g b c p ≡ (if h then s else t)
  chosen_is l = ap (λ (u : Bool). cond u (stored_in b p) (stored_in c p)) (bit_is g p h (condition.1 l)) ∙ ap₂ (λ (u v : Stored). cond h u v) (on.stored l) (off.stored l)

  -- a side of which the lane is the one that is chosen
  in_side : (e : Lanes) → IsWord (q_lanes e) → IsWord (parted_by e) → (p < 64 → IsInLane p e (if h then s else t)) → IsInLane p e (if h then s else t)
  in_side e word parted here = record { word = word; parted = parted; stored = λ l. (here l).stored l; q = λ l. (here l).q l }

  side_on : g.0 ≡ 2 ^ 64 - 1 → p < 64 → IsInLane p b (if h then s else t)
  side_on e l = subst (λ (u : Bool). IsInLane p b (cond u s t)) (sym (whole_one g.0 p l e) ∙ bit_is g p h (condition.1 l)) on

  side_off : g.0 ≡ 0 → p < 64 → IsInLane p c (if h then s else t)
  side_off e l = subst (λ (u : Bool). IsInLane p c (cond u s t)) (sym (whole_zero g.0 p e) ∙ bit_is g p h (condition.1 l)) off

  by_sides : (k l : Bool) → (k ≡ true → g.0 ≡ 2 ^ 64 - 1) → (l ≡ true → g.0 ≡ 0)
      → IsInLane p (if k then b else (if l then c else apart (chosen g b c))) (if h then s else t)
  by_sides true l ones zero = in_side b on.word on.parted (side_on (ones refl))
  by_sides false true ones zero = in_side c off.word off.parted (side_off (zero refl))
  by_sides false false ones zero = in_apart (chosen g b c) p (cond h s t) chosen_is

  choice_in_lane : IsInLane p (choice_lanes g b c) (if h then s else t)
  choice_in_lane = by_sides (g.0 == 2 ^ 64 - 1) (g.0 == 0) (is_number g.0 (2 ^ 64 - 1)) (is_number g.0 0)

-- Each lane makes the steps and the choices of a block by itself.
pub lanes_keep : (p now : ℕ) (d : Diagram) → StepsKeep d lanes plainly (AllowsAt IsWord IsBit word_allows p) (λ inst. IsInLane p) now now
lanes_keep p now d = record {
  past = λ inst. in_alike (new_block Ton) p (new_block Ton) (λ h. refl);
  q = λ inst b c r. (r.word, r.q);
  step = λ inst b c x y s t r first second. step_in_lane (d.kind inst) (d.preset inst) b x y now p c s t r first second;
  choice = λ inst g h b e c f condition on off. choice_in_lane g h b e c f p condition on off;
}

-- ---- what a program keeps
-- The Qs of the lanes are a word, and so is what tells which of two they store.
abbrev pub AreLanes : Lanes → Type 0
AreLanes b = IsWord (q_lanes b) × IsWord (parted_by b)

stepped_word : (c d : Bool) (f : ℕ → Stored) (m : Word64) (t u : Stored) → IsWord m → AreLanes (if c then Alike (f 0) else (if d then two m t u else apart f))
stepped_word true d f m t u w = (words_lattice.known_value (q_of (f 0)), words_lattice.known_value false)
stepped_word false true f m t u w = (two_word m t u w, w)
stepped_word false false f m t u w = (apart_word f, apart_parted f)

chosen_word : (k l : Bool) (b c : Lanes) (f : ℕ → Stored) → AreLanes b → AreLanes c → AreLanes (if k then b else (if l then c else apart f))
chosen_word true l b c f on off = on
chosen_word false true b c f on off = off
chosen_word false false b c f on off = (apart_word f, apart_parted f)

pub lanes_keep_values : KeepsValues IsWord AreLanes lanes
lanes_keep_values = record {
  stored = λ s. (words_lattice.known_value (q_of s), words_lattice.known_value false);
  q = λ b k. k.0;
  step = λ kind preset b x y now k v w.
      let m = word_of b x y in
      stepped_word (are_alike b && (is_whole x && is_whole y)) (are_two b && (follows x m && follows y m)) (stepped kind preset b x y now) m
      (step kind preset (on_of b) (any_on x) (any_on y) now) (step kind preset (off_of b) (all_on x) (all_on y) now) (word_is b x y k.1 v w);
  choice = λ guard b c v k l. chosen_word (guard.0 == 2 ^ 64 - 1) (guard.0 == 0) b c (chosen guard b c) k l;
}
