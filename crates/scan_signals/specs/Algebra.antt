-- Signals: what travels through a ladder diagram in place of a truth value. A signal has a number of places; at each place it allows
-- OFF, ON or both. The scan is defined once, over the operations of any signal, and its laws follow from the laws below alone.
use Rattle.std.specs.Prelude.{◌≡◌, ℕ, Bool, true, false, not, ◌&&◌, ◌||◌, if◌then◌else◌}

-- The operations of a signal: `known b` allows just b, `join` is OR, `meet` is AND, `inverse` is NOT,
-- and `choice condition on off` is `on` where the condition is ON and `off` where it is OFF.
pub record Algebra (S : Type 0) : Type 0 where
  pub known : Bool → S
  pub join : S → S → S
  pub meet : S → S → S
  pub inverse : S → S
  pub choice : S → S → S → S

-- The laws of the operations on the values of a signal, `V x` saying that x is such a value (a type may hold more than its values):
-- each operation gives a value; OR and AND make a distributive lattice with OFF below and ON above; NOT exchanges them; a choice
-- with a known condition is that side, and one between equal sides is these.
pub record LatticeLaws (S : Type 0) (V : S → Type 0) (o : Algebra S) : Type 0 where
  pub known_value : (b : Bool) → V (o.known b)
  pub join_value : (x y : S) → V x → V y → V (o.join x y)
  pub meet_value : (x y : S) → V x → V y → V (o.meet x y)
  pub inverse_value : (x : S) → V x → V (o.inverse x)
  pub choice_value : (c x y : S) → V c → V x → V y → V (o.choice c x y)
  pub join_assoc : (x y z : S) → V x → V y → V z → o.join (o.join x y) z ≡ o.join x (o.join y z)
  pub meet_assoc : (x y z : S) → V x → V y → V z → o.meet (o.meet x y) z ≡ o.meet x (o.meet y z)
  pub join_comm : (x y : S) → V x → V y → o.join x y ≡ o.join y x
  pub meet_comm : (x y : S) → V x → V y → o.meet x y ≡ o.meet y x
  pub join_idem : (x : S) → V x → o.join x x ≡ x
  pub meet_idem : (x : S) → V x → o.meet x x ≡ x
  pub join_absorbs : (x y : S) → V x → V y → o.join x (o.meet x y) ≡ x
  pub meet_absorbs : (x y : S) → V x → V y → o.meet x (o.join x y) ≡ x
  pub meet_over_join : (x y z : S) → V x → V y → V z → o.meet x (o.join y z) ≡ o.join (o.meet x y) (o.meet x z)
  pub join_over_meet : (x y z : S) → V x → V y → V z → o.join x (o.meet y z) ≡ o.meet (o.join x y) (o.join x z)
  pub inverse_twice : (x : S) → V x → o.inverse (o.inverse x) ≡ x
  pub inverse_join : (x y : S) → V x → V y → o.inverse (o.join x y) ≡ o.meet (o.inverse x) (o.inverse y)
  pub inverse_meet : (x y : S) → V x → V y → o.inverse (o.meet x y) ≡ o.join (o.inverse x) (o.inverse y)
  pub join_off : (x : S) → V x → o.join (o.known false) x ≡ x
  pub meet_on : (x : S) → V x → o.meet (o.known true) x ≡ x
  pub choice_on : (x y : S) → V x → V y → o.choice (o.known true) x y ≡ x
  pub choice_off : (x y : S) → V x → V y → o.choice (o.known false) x y ≡ y
  pub choice_equal : (c x : S) → V c → V x → o.choice c x x ≡ x

-- What a signal allows: `P p` says that p is one of its places, and `A x p b` that x allows the truth value b there. There is a place;
-- something is allowed at each, `known b` allows just b, and each operation allows what the plain operation gives on allowed values.
pub record AllowsLaws (S : Type 0) (V : S → Type 0) (o : Algebra S) (P : ℕ → Type 0) (A : S → ℕ → Bool → Type 0) : Type 0 where
  pub some_place : (p : ℕ) × P p
  pub some_allowed : (x : S) (p : ℕ) → V x → P p → (b : Bool) × A x p b
  pub known_allows : (b : Bool) (p : ℕ) → P p → A (o.known b) p b
  pub known_only : (b c : Bool) (p : ℕ) → P p → A (o.known b) p c → c ≡ b
  pub join_allows : (x y : S) (p : ℕ) (a b : Bool) → V x → V y → P p → A x p a → A y p b → A (o.join x y) p (a || b)
  pub meet_allows : (x y : S) (p : ℕ) (a b : Bool) → V x → V y → P p → A x p a → A y p b → A (o.meet x y) p (a && b)
  pub inverse_allows : (x : S) (p : ℕ) (a : Bool) → V x → P p → A x p a → A (o.inverse x) p (not a)
  pub choice_allows : (c x y : S) (p : ℕ) (d a b : Bool) → V c → V x → V y → P p → A c p d → A x p a → A y p b
      → A (o.choice c x y) p (if d then a else b)
