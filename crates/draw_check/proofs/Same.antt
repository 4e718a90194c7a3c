-- States that have the same still have it where both are changed alike.
use Rattle.std.proofs.Common.{◌≡◌, ℕ, ◌<◌, ◌≤◌, Bool, false, not, ◌&&◌, List, length, get_or, set, sym, ap, ◌∙◌, arith, inl, inr, get_or-set_other, get_or-set_same, length-set}
use Rattle.std.proofs.lemmas.Bool.{cases_eq}
use Rattle.diagram_program.specs.Program.{Drawing}
use Rattle.scan_cycle.specs.Rung.{Held}
use Rattle.scan_cycle.specs.Cells.{Kept}
use Rattle.diagram_declarations.specs.declared.decls.Instance.{Instance}
use Rattle.st_statements.specs.Run.{assigned, called, triggered}
use Rattle.draw_check.specs.Meaning.{AreSame}

module _ (d : Drawing) (n : ℕ) where
  pub set_same : (xs ys : List Bool) (v : ℕ) (x : Bool) → v < length xs → v < length ys → (i : ℕ) → (get_or xs i false ≡ get_or ys i false)
      → get_or (set xs v x) i false ≡ get_or (set ys v x) i false
  set_same xs ys v x inside within i same = elim (cases_eq i v) [
    | inl e ↦
        ap (λ k. get_or (set xs v x) k false) e ∙ get_or-set_same xs v x false inside
        ∙ sym (ap (λ k. get_or (set ys v x) k false) e ∙ get_or-set_same ys v x false within)
    | inr e ↦ get_or-set_other xs v i x false e ∙ same ∙ sym (get_or-set_other ys v i x false e)
  ]

  pub assigned_same : (v : ℕ) (x : Bool) (g h : Held) → v < n → AreSame d n g h → AreSame d n (assigned v x g) (assigned v x h)
  assigned_same v x g h lt same = record {
    fits = length-set g.values v x ∙ same.fits;
    long = length-set h.values v x ∙ same.long;
    enough = same.enough;
    values = λ i k. set_same g.values h.values v x (omega (arith, lt, same.enough, same.fits)) (omega (arith, lt, same.long)) i (same.values i k);
    kept = same.kept;
  }

  -- a variable that the statements don't have
  pub helper_same : (v : ℕ) (x : Bool) (g h : Held) → n ≤ v → AreSame d n g h → AreSame d n (assigned v x g) h
  helper_same v x g h le same = record {
    fits = length-set g.values v x ∙ same.fits;
    long = same.long;
    enough = same.enough;
    values = λ i k. get_or-set_other g.values v i x false (omega (arith, le, k)) ∙ same.values i k;
    kept = same.kept;
  }

  -- a variable that keeps its value
  pub kept_same : (v : ℕ) (g h : Held) → v < n → AreSame d n g h → AreSame d n (assigned v (get_or g.values v false) g) h
  kept_same v g h lt same = record {
    fits = length-set g.values v _ ∙ same.fits;
    long = same.long;
    enough = same.enough;
    values = λ i k. elim (cases_eq i v) [
      | inl e ↦
          ap (λ m. get_or (set g.values v (get_or g.values v false)) m false) e
          ∙ get_or-set_same g.values v _ false (omega (arith, lt, same.enough, same.fits))
          ∙ same.values v lt
          ∙ ap (λ m. get_or h.values m false) (sym e)
      | inr e ↦ get_or-set_other g.values v i _ false e ∙ same.values i k
    ];
    kept = same.kept;
  }

  pub triggered_same : (v k : ℕ) (x : Bool) (g h : Held) → v < n → AreSame d n g h → AreSame d n (triggered v k x g) (triggered v k x h)
  triggered_same v k x g h lt same =
      let first = assigned_same v (x && not (get_or g.kept.memories k false)) g h lt same in
      record {
        fits = first.fits;
        long = length-set h.values v _ ∙ same.long;
        enough = same.enough;
        values = λ i j. first.values i j ∙ ap (λ (m : Kept). get_or (set h.values v (x && not (get_or m.memories k false))) i false) same.kept;
        kept = ap (λ (m : Kept). record m { memories = set m.memories k x }) same.kept;
      }

  pub called_same : (is : List Instance) (now i : ℕ) (x y : Bool) (g h : Held) → AreSame d n g h → AreSame d n (called is now i x y g) (called is now i x y h)
  called_same is now i x y g h same = record {
    fits = same.fits;
    long = same.long;
    enough = same.enough;
    values = same.values;
    kept = ap (λ (k : Kept). (called is now i x y (record g { kept = k })).kept) same.kept;
  }
