-- Texts that are added one after the other.
use Rattle.std.proofs.Common.{◌≡◌, ◌∙◌, ◌+◌, ◌<◌, ◌++◌, ◌∷◌, [], ℕ, List, ap, sym, append-nil, append_assoc, add-one, take, length, get_or, take-suc}
use Rattle.std.specs.List.{flat_map}
use Rattle.std.proofs.lemmas.Grind.{flat_map-append}
use Rattle.io_table.specs.declared.table.Table.{Table}
use Rattle.text_report.specs.Adding.{Adds}

pub adds_none : (a : Table ℕ) → Adds a a []
adds_none a = record { whole = λ w. w; added = λ w. sym (append-nil a.items.items) }

pub adds_then : (a b c : Table ℕ) (text more : List ℕ) → Adds a b text → Adds b c more → Adds a c (text ++ more)
adds_then a b c text more p q = record {
  whole = λ w. p.whole (q.whole w);
  added = λ w. q.added w ∙ ap (λ t. t ++ more) (p.added (q.whole w)) ∙ append_assoc a.items.items text more;
}

pub adds_same : (a b : Table ℕ) (text other : List ℕ) → text ≡ other → Adds a b text → Adds a b other
adds_same a b text other e p = rw (← e) p

-- one item more
items_more : {A : Type 0} (f : A → List ℕ) (xs : List A) (i : ℕ) (d : A) → i < length xs → flat_map f (take (i + 1) xs) ≡ flat_map f (take i xs) ++ f (get_or xs i d)
items_more f xs i d h =
    let next : take (i + 1) xs ≡ take i xs ++ get_or xs i d ∷ [] = rw (add-one i) (take-suc xs i d h) in
    ap (flat_map f) next ∙ flat_map-append f (take i xs) (get_or xs i d ∷ []) ∙ ap (λ t. flat_map f (take i xs) ++ t) (append-nil (f (get_or xs i d)))

pub adds_more : {A : Type 0} (f : A → List ℕ) (xs : List A) (i : ℕ) (d : A) (a b c : Table ℕ) (text : List ℕ) → i < length xs → text ≡ f (get_or xs i d)
    → Adds a b (flat_map f (take i xs)) → Adds b c text → Adds a c (flat_map f (take (i + 1) xs))
adds_more f xs i d a b c text h is p q =
    adds_same a c (flat_map f (take i xs) ++ text) (flat_map f (take (i + 1) xs))
    (ap (λ t. flat_map f (take i xs) ++ t) is ∙ sym (items_more f xs i d h)) (adds_then a b c (flat_map f (take i xs)) text p q)
