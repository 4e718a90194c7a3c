-- Private to the signal of 64 lanes: its laws, and that each lane goes as three values go.
use Rattle.std.specs.Prelude.{◌≡◌, ℕ, ◌+◌, ◌-◌, ◌%◌, ◌^◌, ◌<◌, ◌≤◌, Bool, true, false, not, ◌&&◌, ◌||◌, if◌then◌else◌, max, min, refl, bit_and, bit_or}
use Rattle.std.specs.Int.{bit_at}
use Rattle.std.proofs.Common.{arith, ap, ap₂, ◌∙◌, lit<, zero, suc, ◌⊎◌, inl, inr}
use Rattle.std.proofs.lemmas.Nat.{or_comm, and_comm, or_lt, and_le_l, and_le_r}
use Rattle.std.proofs.lemmas.Nat.Bits.{bit_at_and, bit_at_or, same_from_bits, same_from_bits_below, bit_at-lt, bit_at_ones, bit_at-zero}
use Rattle.scan_signals.specs.Algebra.{LatticeLaws, AllowsLaws}
use Rattle.scan_signals.specs.Relations.{IsKept}
use Rattle.std.specs.Prelude.{◌==◌, nat_lt}
use Rattle.scan_signals.specs.Rails.{lane_on, lane_off, rails_opened}
use Rattle.scan_signals.specs.Rails.{Lanes, lanes, picked, rails, AreRails, IsRails, lane_allows, on_digit, off_digit, InLane}
use Rattle.scan_signals.specs.Three.{three, three_join, three_meet, three_inverse, three_choice, three_known}
use Rattle.scan_signals.specs.Words.{IsBit}
use Rattle.scan_signals.specs.declared.tri.Tri.{Tri}
use Rattle.scan_signals.specs.declared.tri.Tri.TheVariants.{Off, On, Unsure}

and_lt : (a b : ℕ) → a < 2 ^ 64 → bit_and a b < 2 ^ 64
and_lt a b h = omega (arith, and_le_l a b)

picked_lt : (c d x y : ℕ) → x < 2 ^ 64 → y < 2 ^ 64 → picked c d x y < 2 ^ 64
picked_lt c d x y hx hy =
    let p : bit_and c x < 2 ^ 64 = omega (arith, and_le_r c x) in
    let q : bit_and d y < 2 ^ 64 = omega (arith, and_le_r d y) in
    or_lt 64 _ _ (or_lt 64 _ _ p q) (and_lt x y hx)

picked_bit : (c d x y i : ℕ) → bit_at (picked c d x y) i ≡ max (max (min (bit_at c i) (bit_at x i)) (min (bit_at d i) (bit_at y i))) (min (bit_at x i) (bit_at y i))
picked_bit c d x y i = simp (bit_at_or, bit_at_and) refl

-- ---- the values
apart_join : (a b c d m n : ℕ) → m ≡ max a c → n ≡ min b d → a + b ≤ 1 → c + d ≤ 1 → m + n ≤ 1
apart_join a b c d m n e f h k = omega arith

apart_picked : (c d a b x y m n : ℕ) → m ≡ max (max (min c a) (min d x)) (min a x) → n ≡ max (max (min c b) (min d y)) (min b y)
    → c + d ≤ 1 → a + b ≤ 1 → x + y ≤ 1 → m + n ≤ 1
apart_picked c d a b x y m n e f h k l = omega arith

known_rails : (b : Bool) → IsRails (rails.known b)
known_rails true = record { on_small = lit< tt; off_small = lit< tt; apart = λ i. omega (arith, bit_at-lt (2 ^ 64 - 1) i, bit_at-zero i) }
known_rails false = record { on_small = lit< tt; off_small = lit< tt; apart = λ i. omega (arith, bit_at-lt (2 ^ 64 - 1) i, bit_at-zero i) }

pub join_rails : (x y : Lanes) → IsRails x → IsRails y → IsRails (rails.join x y)
join_rails x y vx vy = record {
  on_small = or_lt 64 x.on y.on vx.on_small vy.on_small;
  off_small = and_lt x.off y.off vx.off_small;
  apart = λ i. apart_join _ _ _ _ _ _ (bit_at_or x.on y.on i) (bit_at_and x.off y.off i) (vx.apart i) (vy.apart i);
}

swap_apart : (a b : ℕ) → a + b ≤ 1 → b + a ≤ 1
swap_apart a b h = omega arith

inverse_rails : (x : Lanes) → IsRails x → IsRails (rails.inverse x)
inverse_rails x vx = record { on_small = vx.off_small; off_small = vx.on_small; apart = λ i. swap_apart _ _ (vx.apart i) }

pub meet_rails : (x y : Lanes) → IsRails x → IsRails y → IsRails (rails.meet x y)
meet_rails x y vx vy = inverse_rails _ (join_rails (rails.inverse x) (rails.inverse y) (inverse_rails x vx) (inverse_rails y vy))

pub choice_rails : (c x y : Lanes) → IsRails c → IsRails x → IsRails y → IsRails (rails.choice c x y)
choice_rails c x y vc vx vy = record {
  on_small = picked_lt c.on c.off x.on y.on vx.on_small vy.on_small;
  off_small = picked_lt c.on c.off x.off y.off vx.off_small vy.off_small;
  apart = λ i. apart_picked _ _ _ _ _ _ _ _ (picked_bit c.on c.off x.on y.on i) (picked_bit c.on c.off x.off y.off i) (vc.apart i) (vx.apart i) (vy.apart i);
}

-- ---- the lattice
on_bit : (i : ℕ) → i < 64 → bit_at (2 ^ 64 - 1) i ≡ 1
on_bit i h = bit_at_ones 64 i h

and_on : (x : ℕ) → x < 2 ^ 64 → bit_and (2 ^ 64 - 1) x ≡ x
and_on x vx = same_from_bits_below 64 _ _ (omega (arith, and_le_r (2 ^ 64 - 1) x)) vx
    (λ i h. bit_at_and (2 ^ 64 - 1) x i ∙ ap (λ n. min n (bit_at x i)) (on_bit i h) ∙ omega (arith, bit_at-lt x i))

or_off : (x : ℕ) → bit_or 0 x ≡ x
or_off x = same_from_bits _ _ (λ i. simp (bit_at_or, bit_at-zero) (omega arith))

first_bit : (t c d x y : ℕ) → t ≡ max (max (min c x) (min d y)) (min x y) → c ≡ 1 → d ≡ 0 → x < 2 → t ≡ x
first_bit t c d x y e f g h = omega arith

second_bit : (t c d x y : ℕ) → t ≡ max (max (min c x) (min d y)) (min x y) → c ≡ 0 → d ≡ 1 → y < 2 → t ≡ y
second_bit t c d x y e f g h = omega arith

equal_bit : (t c d x : ℕ) → t ≡ max (max (min c x) (min d x)) (min x x) → t ≡ x
equal_bit t c d x e = omega arith

picked_first : (x y : ℕ) → x < 2 ^ 64 → y < 2 ^ 64 → picked (2 ^ 64 - 1) 0 x y ≡ x
picked_first x y vx vy = same_from_bits_below 64 _ _ (picked_lt (2 ^ 64 - 1) 0 x y vx vy) vx
    (λ i h. first_bit _ _ _ _ _ (picked_bit (2 ^ 64 - 1) 0 x y i) (on_bit i h) (bit_at-zero i) (bit_at-lt x i))

picked_second : (x y : ℕ) → x < 2 ^ 64 → y < 2 ^ 64 → picked 0 (2 ^ 64 - 1) x y ≡ y
picked_second x y vx vy = same_from_bits_below 64 _ _ (picked_lt 0 (2 ^ 64 - 1) x y vx vy) vy
    (λ i h. second_bit _ _ _ _ _ (picked_bit 0 (2 ^ 64 - 1) x y i) (bit_at-zero i) (on_bit i h) (bit_at-lt y i))

picked_equal : (c d x : ℕ) → picked c d x x ≡ x
picked_equal c d x = same_from_bits _ _ (λ i. equal_bit _ _ _ _ (picked_bit c d x x i))

or_assoc : (x y z : ℕ) → bit_or (bit_or x y) z ≡ bit_or x (bit_or y z)
or_assoc x y z = same_from_bits _ _ (λ i. simp bit_at_or (omega arith))

and_assoc : (x y z : ℕ) → bit_and (bit_and x y) z ≡ bit_and x (bit_and y z)
and_assoc x y z = same_from_bits _ _ (λ i. simp bit_at_and (omega arith))

or_idem : (x : ℕ) → bit_or x x ≡ x
or_idem x = same_from_bits _ _ (λ i. simp bit_at_or (omega arith))

and_idem : (x : ℕ) → bit_and x x ≡ x
and_idem x = same_from_bits _ _ (λ i. simp bit_at_and (omega arith))

or_absorbs : (x y : ℕ) → bit_or x (bit_and x y) ≡ x
or_absorbs x y = same_from_bits _ _ (λ i. simp (bit_at_and, bit_at_or) (omega arith))

and_absorbs : (x y : ℕ) → bit_and x (bit_or x y) ≡ x
and_absorbs x y = same_from_bits _ _ (λ i. simp (bit_at_and, bit_at_or) (omega arith))

and_over_or : (x y z : ℕ) → bit_and x (bit_or y z) ≡ bit_or (bit_and x y) (bit_and x z)
and_over_or x y z = same_from_bits _ _ (λ i. simp (bit_at_and, bit_at_or) (omega arith))

or_over_and : (x y z : ℕ) → bit_or x (bit_and y z) ≡ bit_and (bit_or x y) (bit_or x z)
or_over_and x y z = same_from_bits _ _ (λ i. simp (bit_at_and, bit_at_or) (omega arith))

pub rails_lattice : LatticeLaws Lanes IsRails rails
rails_lattice = record {
  known_value = known_rails;
  join_value = join_rails;
  meet_value = meet_rails;
  inverse_value = inverse_rails;
  choice_value = choice_rails;
  join_assoc = λ x y z vx vy vz. ap₂ lanes (or_assoc x.on y.on z.on) (and_assoc x.off y.off z.off);
  meet_assoc = λ x y z vx vy vz. ap₂ lanes (and_assoc x.on y.on z.on) (or_assoc x.off y.off z.off);
  join_comm = λ x y vx vy. ap₂ lanes (or_comm x.on y.on) (and_comm x.off y.off);
  meet_comm = λ x y vx vy. ap₂ lanes (and_comm x.on y.on) (or_comm x.off y.off);
  join_idem = λ x vx. ap₂ lanes (or_idem x.on) (and_idem x.off);
  meet_idem = λ x vx. ap₂ lanes (and_idem x.on) (or_idem x.off);
  join_absorbs = λ x y vx vy. ap₂ lanes (or_absorbs x.on y.on) (and_absorbs x.off y.off);
  meet_absorbs = λ x y vx vy. ap₂ lanes (and_absorbs x.on y.on) (or_absorbs x.off y.off);
  meet_over_join = λ x y z vx vy vz. ap₂ lanes (and_over_or x.on y.on z.on) (or_over_and x.off y.off z.off);
  join_over_meet = λ x y z vx vy vz. ap₂ lanes (or_over_and x.on y.on z.on) (and_over_or x.off y.off z.off);
  inverse_twice = λ x vx. refl;
  inverse_join = λ x y vx vy. refl;
  inverse_meet = λ x y vx vy. refl;
  join_off = λ x vx. ap₂ lanes (or_off x.on) (and_on x.off vx.off_small);
  meet_on = λ x vx. ap₂ lanes (and_on x.on vx.on_small) (or_off x.off);
  choice_on = λ x y vx vy. ap₂ lanes (picked_first x.on y.on vx.on_small vy.on_small) (picked_first x.off y.off vx.off_small vy.off_small);
  choice_off = λ x y vx vy. ap₂ lanes (picked_second x.on y.on vx.on_small vy.on_small) (picked_second x.off y.off vx.off_small vy.off_small);
  choice_equal = λ c x vc vx. ap₂ lanes (picked_equal c.on c.off x.on) (picked_equal c.on c.off x.off);
}

-- ---- what a lane allows
not_one : (n : ℕ) → n ≡ 0 → n ≡ 1 → ⊥
not_one n h k = omega arith

which : (n : ℕ) → n < 2 → (n ≡ 0) ⊎ (n ≡ 1)
which zero h = inl refl
which (suc zero) h = inr refl
which (suc (suc n)) h = absurd (omega (arith, h))

some_lane : (m n : ℕ) → m < 2 → m + n ≤ 1 → (b : Bool) × ((m ≡ 1 → b ≡ true) × (n ≡ 1 → b ≡ false))
some_lane m n h k = elim (which m h) [
  | inl e ↦ (false, (λ f. absurd (not_one m e f), λ f. refl))
  | inr e ↦ (true, (λ f. refl, λ f. absurd (omega (arith, e, f, k))))
]

known_lane : (b : Bool) (p : ℕ) → p < 64 → lane_allows (rails.known b) p b
known_lane true p h = (λ e. refl, λ e. absurd (not_one _ (bit_at-zero p) e))
known_lane false p h = (λ e. absurd (not_one _ (bit_at-zero p) e), λ e. refl)

known_alone : (b c : Bool) (p : ℕ) → p < 64 → lane_allows (rails.known b) p c → c ≡ b
known_alone true c p h a = a.0 (on_bit p h)
known_alone false c p h a = a.1 (on_bit p h)

or_true : (a b : Bool) (m n t : ℕ) → m < 2 → t ≡ max m n → (m ≡ 1 → a ≡ true) → (n ≡ 1 → b ≡ true) → t ≡ 1 → (a || b) ≡ true
or_true a b m n t lt e h k one = elim (which m lt) [
  | inl z ↦ let f : b ≡ true = k (omega (arith, z, e, one)) in grind arith
  | inr z ↦ let f : a ≡ true = h z in grind arith
]

or_false : (a b : Bool) (m n t : ℕ) → m < 2 → n < 2 → t ≡ min m n → (m ≡ 1 → a ≡ false) → (n ≡ 1 → b ≡ false) → t ≡ 1 → (a || b) ≡ false
or_false a b m n t lt less e h k one =
    let f : a ≡ false = h (omega (arith, lt, e, one)) in
    let g : b ≡ false = k (omega (arith, less, e, one)) in grind arith

and_true : (a b : Bool) (m n t : ℕ) → m < 2 → n < 2 → t ≡ min m n → (m ≡ 1 → a ≡ true) → (n ≡ 1 → b ≡ true) → t ≡ 1 → (a && b) ≡ true
and_true a b m n t lt less e h k one =
    let f : a ≡ true = h (omega (arith, lt, e, one)) in
    let g : b ≡ true = k (omega (arith, less, e, one)) in grind arith

and_false : (a b : Bool) (m n t : ℕ) → m < 2 → t ≡ max m n → (m ≡ 1 → a ≡ false) → (n ≡ 1 → b ≡ false) → t ≡ 1 → (a && b) ≡ false
and_false a b m n t lt e h k one = elim (which m lt) [
  | inl z ↦ let f : b ≡ false = k (omega (arith, z, e, one)) in grind arith
  | inr z ↦ let f : a ≡ false = h z in grind arith
]

not_true : (a : Bool) → a ≡ false → not a ≡ true
not_true a h = grind arith

not_false : (a : Bool) → a ≡ true → not a ≡ false
not_false a h = grind arith

one_side : (d a b v : Bool) (c e x y t : ℕ) → c < 2 → e < 2 → x < 2 → y < 2 → t ≡ max (max (min c x) (min e y)) (min x y)
    → (c ≡ 1 → d ≡ true) → (e ≡ 1 → d ≡ false) → (x ≡ 1 → a ≡ v) → (y ≡ 1 → b ≡ v) → t ≡ 1 → (if d then a else b) ≡ v
one_side true a b v c e x y t hc he hx hy eq hon hoff ha hb one = elim (which e he) [
  | inl z ↦ ha (omega (arith, z, eq, one, hc, hx, hy))
  | inr z ↦ let f : true ≡ false = hoff z in cc
]
one_side false a b v c e x y t hc he hx hy eq hon hoff ha hb one = elim (which c hc) [
  | inl z ↦ hb (omega (arith, z, eq, one, he, hx, hy))
  | inr z ↦ let f : false ≡ true = hon z in cc
]

pub rails_allowed : AllowsLaws Lanes IsRails rails IsBit lane_allows
rails_allowed = record {
  some_place = (0, lit< tt);
  some_allowed = λ x p v h. some_lane (bit_at x.on p) (bit_at x.off p) (bit_at-lt x.on p) (v.apart p);
  known_allows = known_lane;
  known_only = λ b c p h a. known_alone b c p h a;
  join_allows = λ x y p a b vx vy h ax ay. (or_true a b _ _ _ (bit_at-lt x.on p) (bit_at_or x.on y.on p) ax.0 ay.0, or_false a b _ _ _ (bit_at-lt x.off p) (bit_at-lt y.off p) (bit_at_and x.off y.off p) ax.1 ay.1);
  meet_allows = λ x y p a b vx vy h ax ay. (and_true a b _ _ _ (bit_at-lt x.on p) (bit_at-lt y.on p) (bit_at_and x.on y.on p) ax.0 ay.0, and_false a b _ _ _ (bit_at-lt x.off p) (bit_at_or x.off y.off p) ax.1 ay.1);
  inverse_allows = λ x p a vx h ax. (λ e. not_true a (ax.1 e), λ e. not_false a (ax.0 e));
  choice_allows = λ c x y p d a b vc vx vy h ac ax ay. (
    one_side d a b true _ _ _ _ _ (bit_at-lt c.on p) (bit_at-lt c.off p) (bit_at-lt x.on p) (bit_at-lt y.on p) (picked_bit c.on c.off x.on y.on p) ac.0 ac.1 ax.0 ay.0,
    one_side d a b false _ _ _ _ _ (bit_at-lt c.on p) (bit_at-lt c.off p) (bit_at-lt x.off p) (bit_at-lt y.off p) (picked_bit c.on c.off x.off y.off p) ac.0 ac.1 ax.1 ay.1,
  );
}

-- ---- each lane goes as three values go
lane_known : (p : ℕ) → p < 64 → (b : Bool) → InLane p (rails.known b) (three_known b)
lane_known p h true = (on_bit p h, bit_at-zero p)
lane_known p h false = (bit_at-zero p, on_bit p h)

join_digits : (u v : Tri) → (max (on_digit u) (on_digit v) ≡ on_digit (three_join u v)) × (min (off_digit u) (off_digit v) ≡ off_digit (three_join u v))
join_digits On On = (refl, refl)
join_digits Off On = (refl, refl)
join_digits Unsure On = (refl, refl)
join_digits _ _ = (refl, refl)

meet_digits : (u v : Tri) → (min (on_digit u) (on_digit v) ≡ on_digit (three_meet u v)) × (max (off_digit u) (off_digit v) ≡ off_digit (three_meet u v))
meet_digits On On = (refl, refl)
meet_digits Off On = (refl, refl)
meet_digits Unsure On = (refl, refl)
meet_digits _ _ = (refl, refl)

inverse_digits : (u : Tri) → (off_digit u ≡ on_digit (three_inverse u)) × (on_digit u ≡ off_digit (three_inverse u))
inverse_digits On = (refl, refl)
inverse_digits Off = (refl, refl)
inverse_digits Unsure = (refl, refl)

-- a bit of what is picked
abbrev pick : ℕ → ℕ → ℕ → ℕ → ℕ
pick c d x y = max (max (min c x) (min d y)) (min x y)

choice_digits : (w u v : Tri) → (pick (on_digit w) (off_digit w) (on_digit u) (on_digit v) ≡ on_digit (three_choice w u v))
    × (pick (on_digit w) (off_digit w) (off_digit u) (off_digit v) ≡ off_digit (three_choice w u v))
choice_digits On On On = (refl, refl)
choice_digits On Off On = (refl, refl)
choice_digits On Unsure On = (refl, refl)
choice_digits Off On On = (refl, refl)
choice_digits Off Off On = (refl, refl)
choice_digits Off Unsure On = (refl, refl)
choice_digits Unsure On On = (refl, refl)
choice_digits Unsure Off On = (refl, refl)
choice_digits Unsure Unsure On = (refl, refl)
choice_digits _ _ _ = (refl, refl)

same_pick : (c d x y e f u v : ℕ) → c ≡ e → d ≡ f → x ≡ u → y ≡ v → pick c d x y ≡ pick e f u v
same_pick c d x y e f u v g h i j = ap₂ (λ a b. max a b) (ap₂ (λ a b. max a b) (ap₂ (λ a b. min a b) g i) (ap₂ (λ a b. min a b) h j)) (ap₂ (λ a b. min a b) i j)

pub lane_kept : (p : ℕ) → p < 64 → IsKept rails three (InLane p)
lane_kept p h = record {
  known = λ c. lane_known p h c;
  join = λ x y u v r s. (
    bit_at_or x.on y.on p ∙ ap₂ (λ a b. max a b) r.0 s.0 ∙ (join_digits u v).0,
    bit_at_and x.off y.off p ∙ ap₂ (λ a b. min a b) r.1 s.1 ∙ (join_digits u v).1,
  );
  meet = λ x y u v r s. (
    bit_at_and x.on y.on p ∙ ap₂ (λ a b. min a b) r.0 s.0 ∙ (meet_digits u v).0,
    bit_at_or x.off y.off p ∙ ap₂ (λ a b. max a b) r.1 s.1 ∙ (meet_digits u v).1,
  );
  inverse = λ x u r. (r.1 ∙ (inverse_digits u).0, r.0 ∙ (inverse_digits u).1);
  choice = λ c x y w u v q r s. (
    picked_bit c.on c.off x.on y.on p ∙ same_pick _ _ _ _ _ _ _ _ q.0 q.1 r.0 s.0 ∙ (choice_digits w u v).0,
    picked_bit c.on c.off x.off y.off p ∙ same_pick _ _ _ _ _ _ _ _ q.0 q.1 r.1 s.1 ∙ (choice_digits w u v).1,
  );
}

small_lane : (n : ℕ) → n % 64 < 64
small_lane n = omega arith

pub number_kept : (n : ℕ) → IsKept rails three (InLane (n % 64))
number_kept n = lane_kept (n % 64) (small_lane n)

-- ---- the lanes of an open bit
apart_by : (a b : ℕ) → bit_and a b ≡ 0 → (i : ℕ) → bit_at a i + bit_at b i ≤ 1
apart_by a b none i =
    let e : bit_at (bit_and a b) i ≡ 0 = ap (λ n. bit_at n i) none ∙ bit_at-zero i in
    omega (arith, e, bit_at_and a b i, bit_at-lt a i, bit_at-lt b i)

abbrev on_by : Bool → Bool → Bool → Bool → Bool → ℕ
on_by a b c d e = if a then 9838263505978427528 else (if b then 16204198715729174752 else (if c then 18302908165848628736
    else (if d then 18446181128050966528 else (if e then 18446744065119617024 else 0))))

abbrev off_by : Bool → Bool → Bool → Bool → Bool → ℕ
off_by a b c d e = if a then 2459565876494606882 else (if b then 1012762419733073422 else (if c then 71495735022846206
    else (if d then 281466386841598 else (if e then 4294967294 else 0))))

lanes_by : (a b c d e : Bool) → AreRails (on_by a b c d e) (off_by a b c d e)
lanes_by true b c d e = record { on_small = lit< tt; off_small = lit< tt; apart = apart_by 9838263505978427528 2459565876494606882 refl }
lanes_by false true c d e = record { on_small = lit< tt; off_small = lit< tt; apart = apart_by 16204198715729174752 1012762419733073422 refl }
lanes_by false false true d e = record { on_small = lit< tt; off_small = lit< tt; apart = apart_by 18302908165848628736 71495735022846206 refl }
lanes_by false false false true e = record { on_small = lit< tt; off_small = lit< tt; apart = apart_by 18446181128050966528 281466386841598 refl }
lanes_by false false false false true = record { on_small = lit< tt; off_small = lit< tt; apart = apart_by 18446744065119617024 4294967294 refl }
lanes_by false false false false false = record { on_small = lit< tt; off_small = lit< tt; apart = apart_by 0 0 refl }

pub open_rails : (t : ℕ) → AreRails (lane_on t) (lane_off t)
open_rails t = lanes_by (t == 1) (t == 2) (t == 3) (t == 4) (t == 5)

pub opened_rails : (u s : ℕ) → IsRails (rails_opened u s)
opened_rails u s = elim (nat_lt s u) as (λ c. IsRails (if c then lanes 0 0 else lanes (lane_on (s - u)) (lane_off (s - u)))) [
  | true ↦ lanes_by false false false false false
  | false ↦ open_rails (s - u)
]

pub rails_choice_known : (c : Lanes) (b : Bool) → IsRails c → rails.choice c (rails.known b) (rails.known b) ≡ rails.known b
rails_choice_known c b v = rails_lattice.choice_equal c (rails.known b) v (rails_lattice.known_value b)
