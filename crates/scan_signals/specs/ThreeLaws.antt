-- Private to the signal of three values: its laws.
use Rattle.std.specs.Prelude.{◌≡◌, ℕ, Bool, true, false, not, ◌&&◌, ◌||◌, if◌then◌else◌, refl}
use Rattle.std.proofs.Common.{arith}
use Rattle.scan_signals.specs.Algebra.{LatticeLaws, AllowsLaws}
use Rattle.scan_signals.specs.Truth.{OnePlace}
use Rattle.scan_signals.specs.Three.{AnyTri, three, three_allows, three_choice, three_inverse, three_join, three_known, three_meet}
use Rattle.scan_signals.specs.declared.tri.Tri.{Tri}
use Rattle.scan_signals.specs.declared.tri.Tri.TheVariants.{Off, On, Unsure}

-- a law of finitely many values is a test that computes
abbrev same : Tri → Tri → Bool
same On On = true
same Off Off = true
same Unsure Unsure = true
same _ _ = false

same-true : (x y : Tri) → same x y ≡ true → x ≡ y
same-true On On h = refl
same-true Off Off h = refl
same-true Unsure Unsure h = refl
same-true _ _ h = cc

abbrev each : (Tri → Bool) → Bool
each f = f On && (f Off && f Unsure)

each-true : (f : Tri → Bool) → each f ≡ true → (x : Tri) → f x ≡ true
each-true f h On = grind arith
each-true f h Off = grind arith
each-true f h Unsure = grind arith

law1 : (f g : Tri → Tri) → each (λ x. same (f x) (g x)) ≡ true → (x : Tri) → f x ≡ g x
law1 f g h x = same-true (f x) (g x) (each-true (λ a. same (f a) (g a)) h x)

law2 : (f g : Tri → Tri → Tri) → each (λ x. each (λ y. same (f x y) (g x y))) ≡ true → (x y : Tri) → f x y ≡ g x y
law2 f g h x = law1 (f x) (g x) (each-true (λ a. each (λ b. same (f a b) (g a b))) h x)

law3 : (f g : Tri → Tri → Tri → Tri) → each (λ x. each (λ y. each (λ z. same (f x y z) (g x y z)))) ≡ true → (x y z : Tri) → f x y z ≡ g x y z
law3 f g h x = law2 (f x) (g x) (each-true (λ a. each (λ b. each (λ c. same (f a b c) (g a b c)))) h x)

pub three_lattice : LatticeLaws Tri AnyTri three
three_lattice = record {
  known_value = λ b. tt;
  join_value = λ x y vx vy. tt;
  meet_value = λ x y vx vy. tt;
  inverse_value = λ x vx. tt;
  choice_value = λ c x y vc vx vy. tt;
  join_assoc = λ x y z vx vy vz. law3 (λ a b c. three_join (three_join a b) c) (λ a b c. three_join a (three_join b c)) refl x y z;
  meet_assoc = λ x y z vx vy vz. law3 (λ a b c. three_meet (three_meet a b) c) (λ a b c. three_meet a (three_meet b c)) refl x y z;
  join_comm = λ x y vx vy. law2 (λ a b. three_join a b) (λ a b. three_join b a) refl x y;
  meet_comm = λ x y vx vy. law2 (λ a b. three_meet a b) (λ a b. three_meet b a) refl x y;
  join_idem = λ x vx. law1 (λ a. three_join a a) (λ a. a) refl x;
  meet_idem = λ x vx. law1 (λ a. three_meet a a) (λ a. a) refl x;
  join_absorbs = λ x y vx vy. law2 (λ a b. three_join a (three_meet a b)) (λ a b. a) refl x y;
  meet_absorbs = λ x y vx vy. law2 (λ a b. three_meet a (three_join a b)) (λ a b. a) refl x y;
  meet_over_join = λ x y z vx vy vz. law3 (λ a b c. three_meet a (three_join b c)) (λ a b c. three_join (three_meet a b) (three_meet a c)) refl x y z;
  join_over_meet = λ x y z vx vy vz. law3 (λ a b c. three_join a (three_meet b c)) (λ a b c. three_meet (three_join a b) (three_join a c)) refl x y z;
  inverse_twice = λ x vx. law1 (λ a. three_inverse (three_inverse a)) (λ a. a) refl x;
  inverse_join = λ x y vx vy. law2 (λ a b. three_inverse (three_join a b)) (λ a b. three_meet (three_inverse a) (three_inverse b)) refl x y;
  inverse_meet = λ x y vx vy. law2 (λ a b. three_inverse (three_meet a b)) (λ a b. three_join (three_inverse a) (three_inverse b)) refl x y;
  join_off = λ x vx. refl;
  meet_on = λ x vx. refl;
  choice_on = λ x y vx vy. refl;
  choice_off = λ x y vx vy. refl;
  choice_equal = λ c x vc vx. law2 (λ a b. three_choice a b b) (λ a b. b) refl c x;
}

join_allowed : (x y : Tri) (p : ℕ) (a b : Bool) → three_allows x p a → three_allows y p b → three_allows (three_join x y) p (a || b)
join_allowed Off Unsure p a b h k = tt
join_allowed Unsure Off p a b h k = tt
join_allowed Unsure Unsure p a b h k = tt
join_allowed _ _ p a b h k = grind arith

meet_allowed : (x y : Tri) (p : ℕ) (a b : Bool) → three_allows x p a → three_allows y p b → three_allows (three_meet x y) p (a && b)
meet_allowed On Unsure p a b h k = tt
meet_allowed Unsure On p a b h k = tt
meet_allowed Unsure Unsure p a b h k = tt
meet_allowed _ _ p a b h k = grind arith

inverse_allowed : (x : Tri) (p : ℕ) (a : Bool) → three_allows x p a → three_allows (three_inverse x) p (not a)
inverse_allowed On p a h = grind arith
inverse_allowed Off p a h = grind arith
inverse_allowed Unsure p a h = tt

agree_allowed : (y z : Tri) (p : ℕ) (a b c : Bool) → three_allows y p b → three_allows z p c → three_allows (three_choice Unsure y z) p (if a then b else c)
agree_allowed On On p a b c h k = grind arith
agree_allowed Off Off p a b c h k = grind arith
agree_allowed Unsure On p a b c h k = tt
agree_allowed _ _ p a b c h k = tt

choice_allowed : (x y z : Tri) (p : ℕ) (a b c : Bool) → three_allows x p a → three_allows y p b → three_allows z p c → three_allows (three_choice x y z) p (if a then b else c)
choice_allowed On y z p a b c g h k = rw g h
choice_allowed Off y z p a b c g h k = rw g k
choice_allowed Unsure y z p a b c g h k = agree_allowed y z p a b c h k

known_allowed : (b : Bool) (p : ℕ) → three_allows (three_known b) p b
known_allowed true p = refl
known_allowed false p = refl

known_alone : (b c : Bool) (p : ℕ) → three_allows (three_known b) p c → c ≡ b
known_alone true c p h = h
known_alone false c p h = h

some_allowed : (x : Tri) (p : ℕ) → (b : Bool) × three_allows x p b
some_allowed On p = (true, refl)
some_allowed Off p = (false, refl)
some_allowed Unsure p = (true, tt)

pub three_allowed : AllowsLaws Tri AnyTri three OnePlace three_allows
three_allowed = record {
  some_place = (0, refl);
  some_allowed = λ x p v h. some_allowed x p;
  known_allows = λ b p h. known_allowed b p;
  known_only = λ b c p h. known_alone b c p;
  join_allows = λ x y p a b vx vy h. join_allowed x y p a b;
  meet_allows = λ x y p a b vx vy h. meet_allowed x y p a b;
  inverse_allows = λ x p a vx h. inverse_allowed x p a;
  choice_allows = λ x y z p a b c vx vy vz h. choice_allowed x y z p a b c;
}

pub three_choice_known : (c : Tri) (b : Bool) → AnyTri c → three.choice c (three.known b) (three.known b) ≡ three.known b
three_choice_known c b v = three_lattice.choice_equal c (three.known b) v (three_lattice.known_value b)
