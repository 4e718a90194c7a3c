-- A look leaves values of the signal: the relational law at the relation that the first is a value.
use Rattle.std.proofs.Common.{ℕ, Bool, false, List, [], ◌∷◌, get_or, zero, suc}
use Rattle.scan_signals.specs.Algebra.{Algebra, LatticeLaws}
use Rattle.scan_signals.specs.Truth.{plain}
use Rattle.scan_signals.specs.Relations.{Both}
use Rattle.scan_cycle.proofs.Kept.{BothFrames}
use Rattle.scan_cycle.specs.Cells.{Diagram, Frame, Kept}
use Rattle.scan_symbolic.specs.ByFrames.{looked}
use Rattle.scan_cycle.specs.Gating.{AreValues}
use Rattle.scan_symbolic.proofs.Kept.{frames_kept}
use Rattle.scan_cycle.proofs.Values.{values_kept, shadow, shadowed}

module _ {S : Type 0} (o : Algebra S) (V : S → Type 0) (l : LatticeLaws S V o) where
  of_both : (d : S) → V d → (xs : List S) (vs : List Bool) → Both (λ (x : S) (u : Bool). V x) xs vs → (i : ℕ) → V (get_or xs i d)
  of_both d vd [] vs h i = vd
  of_both d vd (x ∷ xs) [] h i = absurd h
  of_both d vd (x ∷ xs) (v ∷ vs) h zero = h.0
  of_both d vd (x ∷ xs) (v ∷ vs) h (suc i) = of_both d vd xs vs h.1 i

  pub looked_values : (d : Diagram) (k : Kept) (now : ℕ) (f : Frame S) → AreValues o V f → (n : ℕ) → AreValues o V (looked o d k now f n).frame
  looked_values d k now f h n =
      let w : BothFrames (λ (x : S) (u : Bool). V x) (looked o d k now f n).frame (looked plain d k now (shadow o V l f) n).frame = frames_kept o plain (λ x u. V x) (values_kept o V l) d k now f (shadow o V l f) (shadowed o V l f h) n in
      record { values = of_both (o.known false) (l.known_value false) _ _ w.0; ends = of_both (o.known false) (l.known_value false) _ _ w.1 }
