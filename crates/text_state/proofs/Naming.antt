-- The names of a list of items are well formed, if each one is.
use Rattle.std.proofs.Common.{◌≡◌, ◌<◌, ◌≤◌, ◌+◌, ◌∙◌, ℕ, true, List, sym, ap, arith, get_or, length}
use Rattle.std.proofs.lemmas.Option.{get_or_from_slice_get, slice_get_within}
use borrow.Author.Count.{below_more}
use Rattle.diagram_declarations.specs.Name.{is_name}
use Rattle.text_state.specs.Named.{AreNamed, IsNamed}

pub named_more : {A : Type 0} (name : A → List ℕ) (items : List A) (i : ℕ) (x : A) → ((k : ℕ) → k < i → IsNamed name items k) → is_name (name (get_or items i x)) ≡ true
    → (k : ℕ) → k < i + 1 → IsNamed name items k
named_more name items i x before named = below_more (IsNamed name items) i before (λ y there. ap (λ z. is_name (name z)) (sym (get_or_from_slice_get items i y x there)) ∙ named)

pub named_all : {A : Type 0} (name : A → List ℕ) (items : List A) (i : ℕ) → length items ≤ i → ((k : ℕ) → k < i → IsNamed name items k) → AreNamed name items
named_all name items i h all = λ k x there. all k (omega (arith, h, slice_get_within items k x there)) x there
