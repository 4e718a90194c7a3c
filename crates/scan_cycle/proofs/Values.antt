-- A left link is a value of the signal: the relational law at the relation that the first is a value.
use Rattle.std.proofs.Common.{ℕ, Bool, false, List, [], ◌∷◌, map, get_or, suc, refl}
use Rattle.scan_signals.specs.Algebra.{Algebra, LatticeLaws}
use Rattle.scan_signals.specs.Truth.{plain}
use Rattle.scan_cycle.specs.Routes.{left_link}
use Rattle.scan_signals.specs.Relations.{IsKept, Both}
use Rattle.scan_cycle.proofs.Kept.{BothFrames, left_kept}
use Rattle.scan_cycle.specs.Cells.{Diagram, Frame, Kept}
use Rattle.scan_cycle.specs.Rung.{circuit}
use Rattle.scan_cycle.specs.Gating.{AreValues}

module _ {S : Type 0} (o : Algebra S) (V : S → Type 0) (l : LatticeLaws S V o) where
  pub values_kept : IsKept o plain (λ x u. V x)
  values_kept = record {
    known = λ c. l.known_value c;
    join = λ x y u v r s. l.join_value x y r s;
    meet = λ x y u v r s. l.meet_value x y r s;
    inverse = λ x u r. l.inverse_value x r;
    choice = λ c x y d u v q r s. l.choice_value c x y q r s;
  }

  both_of : (d : S) (xs : List S) → ((i : ℕ) → V (get_or xs i d)) → Both (λ (x : S) (u : Bool). V x) xs (map (λ x. false) xs)
  both_of d [] h = tt
  both_of d (x ∷ xs) h = (h 0, both_of d xs (λ i. h (suc i)))

  abbrev pub shadow : Frame S → Frame Bool
  shadow f = record { values = map (λ x. false) f.values; ends = map (λ x. false) f.ends }

  pub shadowed : (f : Frame S) → AreValues o V f → BothFrames (λ (x : S) (u : Bool). V x) f (shadow f)
  shadowed f h = (both_of (o.known false) f.values h.values, both_of (o.known false) f.ends h.ends)

  pub left_value : (d : Diagram) (k : Kept) (now j : ℕ) (f : Frame S) → AreValues o V f → (row column : ℕ) → V (left_link o (circuit o d k now j f) row column)
  left_value d k now j f h row column = left_kept o plain (λ x u. V x) values_kept d k k now j (λ i. (refl, refl)) f (shadow f) (shadowed f h) row column
