-- The places of memories, in order.
use Rattle.std.proofs.Common.{◌≡◌, ◌+◌, ◌-◌, ◌<◌, ◌≤◌, ◌∙◌, ◌++◌, ◌∷◌, ◌⊎◌, inl, inr, [], ℕ, suc, zero, Bool, true, false, List, Some, refl, sym, ap, subst, arith, append_assoc, length, length-append, slice_get, take, take_all, add-one}
use Rattle.std.specs.List.{count_by, filter, range_with_len}
use Rattle.std.proofs.lemmas.List.{append-nil}
use Rattle.std.proofs.lemmas.List.Elements.{filter-append}
use Rattle.std.proofs.lemmas.List.Sums.{count_by_more_no, count_by_more_yes}
use Rattle.std.proofs.lemmas.Option.{same_Some}
use Rattle.diagram_program.specs.declared.site.Site.{Site}
use Rattle.diagram_program.specs.Program.{Drawing, cell_in, has_memory, memories_of}
use Rattle.diagram_program.specs.Sheet.{blank_site}
use Rattle.text_state.specs.StateText.{memory_places}
use Rattle.text_state.specs.Parts.{memory_places_before}
use Rattle.diagram_program.proofs.Ranges.{range_more}

abbrev here : Drawing → ℕ → Bool
here p n = has_memory (cell_in p n)

abbrev remembers : Site → Bool
remembers s = has_memory s.cell

-- the places before the next one, and that one where it has a memory
one_more : (p : Drawing) (n : ℕ) → memory_places_before p (suc n) ≡ memory_places_before p n ++ filter (here p) (n ∷ [])
one_more p n =
    let last : 0 + n ≡ n = omega arith in
    ap (filter (here p)) (range_more 0 n) ∙ filter-append (here p) (range_with_len 0 n) ((0 + n) ∷ [])
    ∙ ap (λ x. memory_places_before p n ++ filter (here p) (x ∷ [])) last

pub place_there : (p : Drawing) (n : ℕ) → here p n ≡ true → memory_places_before p (suc n) ≡ memory_places_before p n ++ n ∷ []
place_there p n e = let last : filter (here p) (n ∷ []) ≡ n ∷ [] = rw e refl in one_more p n ∙ ap (λ xs. memory_places_before p n ++ xs) last

pub place_not : (p : Drawing) (n : ℕ) → here p n ≡ false → memory_places_before p (suc n) ≡ memory_places_before p n
place_not p n e =
    let none : filter (here p) (n ∷ []) ≡ [] = rw e refl in
    one_more p n ∙ ap (λ xs. memory_places_before p n ++ xs) none ∙ append-nil (memory_places_before p n)

-- one place more
abbrev pub Later : Drawing → ℕ → ℕ → Type 0
Later p n m = (more : List ℕ) × (memory_places_before p m ≡ memory_places_before p n ++ n ∷ more)

grown : (p : Drawing) (n m : ℕ) (b : Bool) → here p m ≡ b → Later p n m → Later p n (suc m)
grown p n m true e (more, cut) = (more ++ m ∷ [], place_there p m e ∙ ap (λ l. l ++ m ∷ []) cut ∙ append_assoc (memory_places_before p n) (n ∷ more) (m ∷ []))
grown p n m false e (more, cut) = (more, place_not p m e ∙ cut)

pub places_cut : (p : Drawing) (n m k : ℕ) → here p n ≡ true → m ≡ suc n + k → Later p n m
places_cut p n m zero e h = let at : suc n ≡ m = omega (arith, h) in subst (Later p n) at ([], place_there p n e)
places_cut p n m (suc k) e h =
    let at : suc (suc n + k) ≡ m = omega (arith, h) in
    subst (Later p n) at (grown p n (suc n + k) (here p (suc n + k)) refl (places_cut p n (suc n + k) k e refl))

-- there are as many as cells with a memory
counted : (p : Drawing) (n m : ℕ) (b : Bool) → here p n ≡ b → n < length p.sites → length (memory_places_before p n) ≡ count_by remembers (take n p.sites)
    → length (memory_places_before p (suc n)) ≡ count_by remembers (take (n + 1) p.sites)
counted p n m true e h before = omega (arith, ap length (place_there p n e), length-append (memory_places_before p n) (n ∷ []), before, count_by_more_yes remembers p.sites n blank_site h e)
counted p n m false e h before = ap length (place_not p n e) ∙ before ∙ sym (count_by_more_no remembers p.sites n blank_site h e)

pub places_count : (p : Drawing) (n : ℕ) → n ≤ length p.sites → length (memory_places_before p n) ≡ count_by remembers (take n p.sites)
places_count p zero h = refl
places_count p (suc n) h = rw (← add-one n) (counted p n n (here p n) refl (omega (arith, h)) (places_count p n (omega (arith, h))))

pub all_places : (p : Drawing) → length (memory_places p) ≡ memories_of p
all_places p = places_count p (length p.sites) (omega arith) ∙ ap (count_by remembers) (take_all (length p.sites) p.sites (omega arith))

pub places_none : (p : Drawing) → [] ≡ memory_places_before p 0
places_none p = refl

-- a place with a memory has a number below the count of memories
pub place_cut : (p : Drawing) (n : ℕ) → here p n ≡ true → n < length p.sites → Later p n (length p.sites)
place_cut p n e h = places_cut p n (length p.sites) (length p.sites - suc n) e (omega (arith, h))

pub place_number : (p : Drawing) (n : ℕ) → here p n ≡ true → n < length p.sites → length (memory_places_before p n) < memories_of p
place_number p n e h =
    let cut = place_cut p n e h in
    omega (arith, all_places p, ap length cut.1, length-append (memory_places_before p n) (n ∷ cut.0))

pub one_there : (p : Drawing) (n : ℕ) → here p n ≡ true → memory_places_before p (n + 1) ≡ memory_places_before p n ++ n ∷ []
one_there p n e = rw (add-one n) (place_there p n e)

pub one_not : (p : Drawing) (n : ℕ) → here p n ≡ false → memory_places_before p (n + 1) ≡ memory_places_before p n
one_not p n e = rw (add-one n) (place_not p n e)

-- ---- each of these places is before the bound

get_push : (xs : List ℕ) (n i x : ℕ) → slice_get (xs ++ n ∷ []) i ≡ Some x → (slice_get xs i ≡ Some x) ⊎ (n ≡ x)
get_push [] n zero x e = inr (same_Some _ _ e)
get_push [] n (suc i) x e = cc
get_push (a ∷ xs) n zero x e = inl e
get_push (a ∷ xs) n (suc i) x e = get_push xs n i x e

below_step : (p : Drawing) (n i place : ℕ) (b : Bool) → here p n ≡ b → ((k : ℕ) → slice_get (memory_places_before p n) k ≡ Some place → place < n)
    → slice_get (memory_places_before p (suc n)) i ≡ Some place → place < suc n
below_step p n i place true e before h = elim (get_push (memory_places_before p n) n i place (sym (ap (λ l. slice_get l i) (place_there p n e)) ∙ h)) [
  | inl there ↦ omega (arith, before i there)
  | inr last ↦ omega (arith, last)
]
below_step p n i place false e before h = omega (arith, before i (sym (ap (λ l. slice_get l i) (place_not p n e)) ∙ h))

pub place_below : (p : Drawing) (n i place : ℕ) → slice_get (memory_places_before p n) i ≡ Some place → place < n
place_below p zero i place e = cc
place_below p (suc n) i place e = below_step p n i place (here p n) refl (λ k there. place_below p n k place there) e
