-- The relational law for lists that are read and written, for what coils write, and for the given inputs.
use Rattle.std.proofs.Common.{ℕ, Bool, true, false, List, [], ◌∷◌, map, set, zero, suc, Option, Some, None}
use Rattle.scan_signals.specs.Algebra.{Algebra}
use Rattle.scan_signals.specs.Relations.{IsKept, Both}
use Rattle.diagram_program.specs.declared.mode.CoilMode.{CoilMode}
use Rattle.diagram_program.specs.declared.mode.CoilMode.TheVariants as coil
use Rattle.diagram_program.specs.declared.cell.Cell.{Cell}
use Rattle.diagram_program.specs.declared.cell.Cell.TheVariants.{Coil}
use Rattle.scan_cycle.specs.Cells.{at, put_in, coil_value, stored_by}
use Rattle.scan_cycle.specs.Scan.{given}
use Rattle.scan_cycle.proofs.Kept.{get_kept}

module _ {A B : Type 0} (a : Algebra A) (b : Algebra B) (R : A → B → Type 0) (k : IsKept a b R) where
  -- ---- lists
  pub set_kept : (xs : List A) (vs : List B) → Both R xs vs → (i : ℕ) (x : A) (v : B) → R x v → Both R (set xs i x) (set vs i v)
  set_kept [] [] h i x v r = tt
  set_kept [] (w ∷ vs) h i x v r = absurd h
  set_kept (y ∷ xs) [] h i x v r = absurd h
  set_kept (y ∷ xs) (w ∷ vs) h zero x v r = (r, h.1)
  set_kept (y ∷ xs) (w ∷ vs) h (suc i) x v r = (h.0, set_kept xs vs h.1 i x v r)

  pub at_kept : (xs : List A) (vs : List B) → Both R xs vs → (m : Option ℕ) → R (at xs m (a.known false)) (at vs m (b.known false))
  at_kept xs vs h None = k.known false
  at_kept xs vs h (Some i) = get_kept a b R k xs vs h (a.known false) (b.known false) (k.known false) i

  pub put_kept : (xs : List A) (vs : List B) → Both R xs vs → (m : Option ℕ) (x : A) (v : B) → R x v → Both R (put_in xs m x) (put_in vs m v)
  put_kept xs vs h None x v r = h
  put_kept xs vs h (Some i) x v r = set_kept xs vs h i x v r

  -- ---- cells
  stored_kept : (mode : CoilMode) (l m x : A) (u n v : B) → R l u → R m n → R x v → R (stored_by a mode l m x) (stored_by b mode u n v)
  stored_kept coil.Store l m x u n v r s t = r
  stored_kept coil.Inverse l m x u n v r s t = k.inverse _ _ r
  stored_kept coil.Set l m x u n v r s t = k.choice _ _ _ _ _ _ r (k.known true) t
  stored_kept coil.Reset l m x u n v r s t = k.choice _ _ _ _ _ _ r (k.known false) t
  stored_kept coil.Rising l m x u n v r s t = k.meet _ _ _ _ r (k.inverse _ _ s)
  stored_kept coil.Falling l m x u n v r s t = k.meet _ _ _ _ (k.inverse _ _ r) s

  pub coil_kept : (c : Cell) (l m x : A) (u n v : B) → R l u → R m n → R x v → R (coil_value a c l m x) (coil_value b c u n v)
  coil_kept (Coil mode var memory) l m x u n v r s t = stored_kept mode l m x u n v r s t
  coil_kept _ l m x u n v r s t = t

  -- ---- what the rungs begin with
  pub given_kept : (flags : List Bool) (xs : List A) (vs : List B) → Both R xs vs → (ys : List A) (ws : List B) → Both R ys ws → Both R (given flags xs ys) (given flags vs ws)
  given_kept [] xs vs h ys ws r = r
  given_kept (true ∷ flags) xs vs h [] [] r = tt
  given_kept (true ∷ flags) [] [] h (y ∷ ys) (w ∷ ws) r = (r.0, given_kept flags [] [] h ys ws r.1)
  given_kept (true ∷ flags) [] (v ∷ vs) h (y ∷ ys) (w ∷ ws) r = absurd h
  given_kept (true ∷ flags) (x ∷ xs) [] h (y ∷ ys) (w ∷ ws) r = absurd h
  given_kept (true ∷ flags) (x ∷ xs) (v ∷ vs) h (y ∷ ys) (w ∷ ws) r = (h.0, given_kept flags xs vs h.1 ys ws r.1)
  given_kept (false ∷ flags) xs vs h [] [] r = tt
  given_kept (false ∷ flags) xs vs h (y ∷ ys) (w ∷ ws) r = (r.0, given_kept flags xs vs h ys ws r.1)
  given_kept _ xs vs h _ _ r = absurd r

  pub known_kept : {C : Type 0} (f : C → Bool) (cs : List C) → Both R (map (λ c. a.known (f c)) cs) (map (λ c. b.known (f c)) cs)
  known_kept f [] = tt
  known_kept f (c ∷ cs) = (k.known (f c), known_kept f cs)
