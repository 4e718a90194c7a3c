-- The cells of two programs that stand side by side.
use Rattle.std.proofs.Common.{◌≡◌, ◌∙◌, ◌+◌, ◌-◌, ◌*◌, ◌<◌, ◌≤◌, ℕ, List, ◌++◌, [], ◌∷◌, ap, ap₂, arith, cond, get_or, length, map, refl, sym}
use Rattle.std.specs.List.{sum_by}
use Rattle.std.proofs.lemmas.List.{get_or-append_right, get_or_append_left, length-append, length-map}
use Rattle.std.proofs.lemmas.List.Sums.{sum_by-append, sum_by-cons}
use Rattle.std.proofs.Math.ListN.{get_or-map}
use Rattle.diagram_declarations.specs.Decls.{Declared}
use Rattle.diagram_program.specs.declared.geometry.TheConstants.{PLACES, RUNGS}
use Rattle.diagram_program.specs.declared.site.Site.{Site}
use Rattle.diagram_program.specs.Program.{Drawing, IsWhole, cell_in, drawing, has_memory, memories_of}
use Rattle.diagram_program.specs.Sheet.{blank_site}
use Rattle.diff_beside.specs.Moving.{Shift, moved, moved_site}
use Rattle.diff_beside.proofs.Moved.{moved_has}

-- the two, with these numbers
abbrev pub both : Drawing → Drawing → Declared → Shift → Shift → Drawing
both p q decls a b = drawing decls (p.rungs + q.rungs) (map (moved_site a) p.sites ++ map (moved_site b) q.sites)

as_many : (s : Shift) (xs : List Site) → sum_by (λ (x : Site). cond (has_memory x.cell) 1 0) (map (moved_site s) xs) ≡ sum_by (λ (x : Site). cond (has_memory x.cell) 1 0) xs
as_many s [] = refl
as_many s (x ∷ xs) =
    let f : Site → ℕ = λ y. cond (has_memory y.cell) 1 0 in
    sum_by-cons f (moved_site s x) (map (moved_site s) xs) ∙ ap₂ (λ b n. cond b 1 0 + n) (moved_has s x.cell) (as_many s xs) ∙ sym (sum_by-cons f x xs)

pub both_memories : (p q : Drawing) (decls : Declared) (a b : Shift) → memories_of (both p q decls a b) ≡ memories_of p + memories_of q
both_memories p q decls a b =
    sum_by-append (λ (x : Site). cond (has_memory x.cell) 1 0) (map (moved_site a) p.sites) (map (moved_site b) q.sites)
    ∙ ap₂ (λ m n. m + n) (as_many a p.sites) (as_many b q.sites)

module _ (p q : Drawing) (decls : Declared) (a b : Shift) (of_old : IsWhole p) (of_new : IsWhole q) where
  pub both_whole : p.rungs + q.rungs ≤ RUNGS → IsWhole (both p q decls a b)
  both_whole few = record {
    few = few;
    size = length-append (map (moved_site a) p.sites) (map (moved_site b) q.sites)
        ∙ ap₂ (λ m n. m + n) (length-map p.sites (moved_site a) ∙ of_old.size) (length-map q.sites (moved_site b) ∙ of_new.size)
        ∙ omega arith;
  }

  moved_there : (s : Shift) (xs : List Site) (i : ℕ) → (get_or (map (moved_site s) xs) i blank_site).cell ≡ moved s (get_or xs i blank_site).cell
  moved_there s xs i = ap (λ (x : Site). x.cell) (get_or-map (moved_site s) xs i blank_site)

  pub in_old : (i : ℕ) → i < PLACES * p.rungs → cell_in (both p q decls a b) i ≡ moved a (cell_in p i)
  in_old i below =
      let within : i < length (map (moved_site a) p.sites) = omega (arith, length-map p.sites (moved_site a), of_old.size, below) in
      ap (λ (x : Site). x.cell) (get_or_append_left (map (moved_site a) p.sites) (map (moved_site b) q.sites) blank_site i within)
      ∙ moved_there a p.sites i

  pub in_new : (i : ℕ) → PLACES * p.rungs ≤ i → cell_in (both p q decls a b) i ≡ moved b (cell_in q (i - PLACES * p.rungs))
  in_new i past =
      let size : length (map (moved_site a) p.sites) ≡ PLACES * p.rungs = length-map p.sites (moved_site a) ∙ of_old.size in
      ap (λ (x : Site). x.cell) (get_or-append_right (map (moved_site a) p.sites) (map (moved_site b) q.sites) (PLACES * p.rungs) i blank_site size past)
      ∙ moved_there b q.sites (i - PLACES * p.rungs)
