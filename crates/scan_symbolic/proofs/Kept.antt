-- The relational law for what a look writes, from one rung to all of them.
use Rattle.std.proofs.Common.{ℕ, ◌+◌, ◌/◌, ◌%◌, ◌<◌, false, zero, suc, refl, arith}
use Rattle.diagram_program.specs.declared.geometry.TheConstants.{ROWS, PLACES}
use Rattle.scan_signals.specs.Algebra.{Algebra}
use Rattle.scan_signals.specs.Relations.{IsKept, Both}
use Rattle.diagram_program.specs.declared.cell.Cell.{Cell}
use Rattle.diagram_program.specs.Program.{block_in}
use Rattle.scan_cycle.specs.Cells.{Diagram, Frame, Kept, var_in}
use Rattle.scan_cycle.specs.Rung.{link, second}
use Rattle.scan_symbolic.specs.KnownScan.{guard_of}
use Rattle.scan_symbolic.specs.ByFrames.{written, effects, after_rung, looked}
use Rattle.scan_cycle.proofs.Kept.{AlikeCell, Alike, BothFrames, either, q_kept, known_same, left_kept}
use Rattle.scan_symbolic.proofs.KeptParts.{at_kept, put_kept, coil_kept}
use Rattle.scan_symbolic.proofs.Guards.{guard_kept, taken_kept}
use Rattle.scan_symbolic.proofs.Lists.{push_both}

module _ {A B : Type 0} (a : Algebra A) (b : Algebra B) (R : A → B → Type 0) (k : IsKept a b R) where
  -- ---- one rung
  pub link_kept : (d : Diagram) (p h : Kept) (now j : ℕ) → Alike d j p h → (f : Frame A) (g : Frame B) → BothFrames R f g → (e : ℕ) → R (link a d p now j f e) (link b d h now j g e)
  link_kept d p h now j al f g r e = left_kept a b R k d p h now j al f g r (e % ROWS) (e / ROWS)

  written_kept : (d : Diagram) (p h : Kept) (now : ℕ) (c : Cell) → AlikeCell p h c → (m : A) (n : B) → R m n → (x y : A) (u v : B) → R x u → R y v →
      (f : Frame A) (g : Frame B) → BothFrames R f g → BothFrames R (written a d p now m c x y f) (written b d h now n c u v g)
  written_kept d p h now c al m n r x y u v s t f g w = (
    put_kept a b R k f.values g.values w.0 (var_in c) _ _
        (k.choice _ _ _ _ _ _ r (coil_kept a b R k c _ _ _ _ _ _ s (known_same a b R k _ _ al.0) (at_kept a b R k f.values g.values w.0 (var_in c))) (at_kept a b R k f.values g.values w.0 (var_in c))),
    put_kept a b R k f.ends g.ends w.1 (block_in c) _ _
        (k.choice _ _ _ _ _ _ r (q_kept a b R k d p h now c al _ _ _ _ s t) (at_kept a b R k f.ends g.ends w.1 (block_in c))),
  )

  pub effects_kept : (d : Diagram) (p h : Kept) (now j : ℕ) → Alike d j p h → (m : A) (n : B) → R m n → (l : ℕ → A) (u : ℕ → B) (top : ℕ) →
      ((e : ℕ) → e < top → R (l e) (u e) × R (second a d j l e) (second b d j u e)) →
      (f : Frame A) (g : Frame B) → BothFrames R f g → BothFrames R (effects a d p now j m l top f) (effects b d h now j n u top g)
  unfolding effects
  effects_kept d p h now j al m n r l u zero s f g w = w
  effects_kept d p h now j al m n r l u (suc e) s f g w =
      written_kept d p h now (d.cell j e) (al e) m n r _ _ _ _ (s e (omega arith)).0 (s e (omega arith)).1 _ _ (effects_kept d p h now j al m n r l u e (λ i i_lt. s i (omega arith)) f g w)

  pub rung_kept : (d : Diagram) (p h : Kept) (now j : ℕ) → Alike d j p h → (m : A) (n : B) → R m n → (f : Frame A) (g : Frame B) → BothFrames R f g →
      BothFrames R (after_rung a d p now j m f) (after_rung b d h now j n g)
  rung_kept d p h now j al m n r f g w =
      let links = link_kept d p h now j al f g w in
      effects_kept d p h now j al m n r _ _ PLACES (λ e e_lt. (links e, either a b R k (d.linked j e) _ _ _ _ (links (e + 1)) (k.known false))) f g w

  -- ---- the look
  looked_kept : (d : Diagram) (p : Kept) (now : ℕ) (f : Frame A) (g : Frame B) → BothFrames R f g → (n : ℕ) →
      BothFrames R (looked a d p now f n).frame (looked b d p now g n).frame × Both R (looked a d p now f n).taken (looked b d p now g n).taken
  unfolding looked
  looked_kept d p now f g h zero = (h, tt)
  looked_kept d p now f g h (suc n) =
      let e = looked_kept d p now f g h n in
      let r : R (guard_of a d (looked a d p now f n).taken n) (guard_of b d (looked b d p now g n).taken n) = guard_kept a b R k d _ _ e.1 n in
      let al : Alike d n p p = λ i. (refl, refl) in
      (rung_kept d p p now n al _ _ r _ _ e.0, push_both R _ _ e.1 _ _ (taken_kept a b R k (d.jump n) _ _ r _ _ (link_kept d p p now n al _ _ e.0)))

  pub frames_kept : (d : Diagram) (p : Kept) (now : ℕ) (f : Frame A) (g : Frame B) → BothFrames R f g → (n : ℕ) → BothFrames R (looked a d p now f n).frame (looked b d p now g n).frame
  frames_kept d p now f g h n = (looked_kept d p now f g h n).0
