-- Relations between the values of two signals, and what keeps them.
use Rattle.std.specs.Prelude.{ℕ, Bool, List, [], ◌∷◌}
use Rattle.scan_signals.specs.Algebra.{Algebra, LatticeLaws, AllowsLaws}
use Rattle.scan_signals.specs.Truth.{plain}

-- The operations keep the relation R.
pub record IsKept {A B : Type 0} (a : Algebra A) (b : Algebra B) (R : A → B → Type 0) : Type 0 where
  pub known : (c : Bool) → R (a.known c) (b.known c)
  pub join : (x y : A) (u v : B) → R x u → R y v → R (a.join x y) (b.join u v)
  pub meet : (x y : A) (u v : B) → R x u → R y v → R (a.meet x y) (b.meet u v)
  pub inverse : (x : A) (u : B) → R x u → R (a.inverse x) (b.inverse u)
  pub choice : (c x y : A) (d u v : B) → R c d → R x u → R y v → R (a.choice c x y) (b.choice d u v)

-- Two lists are related member by member, and are as long.
abbrev pub Both : {A B : Type 0} → (A → B → Type 0) → List A → List B → Type 0
Both R [] [] = Unit {0}
Both R [] (v ∷ vs) = ⊥
Both R (x ∷ xs) [] = ⊥
Both R (x ∷ xs) (v ∷ vs) = R x v × Both R xs vs

-- At place p, x is a value of its signal and allows b.
abbrev pub AllowsAt : {S : Type 0} → (S → Type 0) → (ℕ → Type 0) → (S → ℕ → Bool → Type 0) → ℕ → S → Bool → Type 0
AllowsAt V P A p x b = V x × (P p → A x p b)

-- To allow a truth value at a place is such a relation.
pub allows_kept : {S : Type 0} (V : S → Type 0) (o : Algebra S) (P : ℕ → Type 0) (A : S → ℕ → Bool → Type 0)
    → LatticeLaws S V o → AllowsLaws S V o P A → (p : ℕ) → IsKept o plain (AllowsAt V P A p)
allows_kept V o P A l w p = record {
  known = λ c. (l.known_value c, λ h. w.known_allows c p h);
  join = λ x y u v r s. (l.join_value x y r.0 s.0, λ h. w.join_allows x y p u v r.0 s.0 h (r.1 h) (s.1 h));
  meet = λ x y u v r s. (l.meet_value x y r.0 s.0, λ h. w.meet_allows x y p u v r.0 s.0 h (r.1 h) (s.1 h));
  inverse = λ x u r. (l.inverse_value x r.0, λ h. w.inverse_allows x p u r.0 h (r.1 h));
  choice = λ c x y d u v q r s.
      (l.choice_value c x y q.0 r.0 s.0, λ h. w.choice_allows c x y p d u v q.0 r.0 s.0 h (q.1 h) (r.1 h) (s.1 h));
}
