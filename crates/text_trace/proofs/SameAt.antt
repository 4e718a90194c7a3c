-- Two functions that have the same values at the elements of a list, and what a trace of changes has of two states.
use Rattle.std.proofs.Common.{◌≡◌, ◌∙◌, ◌<◌, [], ℕ, suc, zero, true, false, List, Some, ap, arith, inl, inr, map, nat_eq, refl, slice_get, sym}
use Rattle.std.specs.Prelude.{option_map}
use Rattle.std.proofs.lemmas.Cmp.{nat_eq_equiv}
use Rattle.std.proofs.lemmas.Option.{same_Some, slice_get-map}
use Rattle.diagram_program.specs.Program.{Drawing}
use Rattle.scan_cycle.specs.Standing.{Standing}
use Rattle.text_trace.specs.declared.column.Column.{Column}
use Rattle.text_trace.specs.Trace.{AreAlike, TellsChange, watched_row}

-- at an element
pub same_at : {A B : Type 0} (f g : A → B) (xs : List A) (i : ℕ) (x : A) → slice_get xs i ≡ Some x → map f xs ≡ map g xs → f x ≡ g x
same_at f g xs i x e h =
    same_Some _ _ (sym (slice_get-map f xs i ∙ ap (option_map f) e) ∙ ap (λ l. slice_get l i) h ∙ slice_get-map g xs i ∙ ap (option_map g) e)

pub no_number : (m n : ℕ) → nat_eq m n ≡ false → m ≡ n → ⊥
no_number m n e same = let bad : true ≡ false = sym (nat_eq_equiv.refl n) ∙ sym (ap (λ k. nat_eq k n) same) ∙ e in cc

-- ---- a trace of changes

pub left_out : (p : Drawing) (columns : List Column) (done : ℕ) (s t : Standing) → 0 < done → AreAlike p columns s t → TellsChange p columns done s t []
left_out p columns zero s t some alike = absurd (omega (arith, some))
left_out p columns (suc n) s t some alike = inl (alike, refl)

pub first_row : (p : Drawing) (columns : List Column) (done : ℕ) (s t : Standing) → done ≡ 0 → TellsChange p columns done s t (watched_row p columns t)
first_row p columns zero s t none = refl
first_row p columns (suc n) s t none = absurd (omega (arith, none))

pub other_row : (p : Drawing) (columns : List Column) (done : ℕ) (s t : Standing) → (AreAlike p columns s t → ⊥) → TellsChange p columns done s t (watched_row p columns t)
other_row p columns zero s t other = refl
other_row p columns (suc n) s t other = inr (other, refl)
