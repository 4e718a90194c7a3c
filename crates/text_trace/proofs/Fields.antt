-- The fields of chosen elements, each behind a comma.
use Rattle.std.proofs.Common.{◌≡◌, ◌∙◌, ◌+◌, ◌≤◌, ◌++◌, ◌∷◌, [], ℕ, suc, true, false, Bool, List, Some, sym, ap, append-nil, codes, drop, length, map, slice_get, take, take_all}
use Rattle.std.proofs.lemmas.List.{map-append}
use Rattle.io_text.specs.Text.{after_commas}
use Rattle.io_text.proofs.Commas.{after_commas-append}
use Rattle.io_text.specs.Buffer.{SendsAll}
use Rattle.io_text.specs.Log.{PutsPrefix, WriteLog}
use Rattle.io_text.proofs.Sending.{sends_prefix, sends_more, sends_same}
use Rattle.text_trace.specs.Room.{chosen}
use Rattle.text_trace.proofs.Lists.{chosen_apart, chosen_next}

abbrev pub fields : {A : Type 0} → (A → List ℕ) → List Bool → List A → List ℕ
fields f marks xs = after_commas (map f (chosen marks xs))

-- one field more
pub field_more : {A : Type 0} (f : A → List ℕ) (marks : List Bool) (xs : List A) (i : ℕ) (x : A) (a b c : WriteLog) (w0 w1 w2 : List ℕ) → slice_get marks i ≡ Some true → slice_get xs i ≡ Some x
    → SendsAll a b w0 w1 (fields f (take i marks) xs) → SendsAll b c w1 w2 (codes "," ++ f x) → SendsAll a c w0 w2 (fields f (take (i + 1) marks) xs)
field_more f marks xs i x a b c w0 w1 w2 e g p q =
    let text : fields f (take (i + 1) marks) xs ≡ fields f (take i marks) xs ++ (codes "," ++ f x) =
    ap (λ l. after_commas (map f l)) (chosen_next marks xs i true x e g)
    ∙ ap after_commas (map-append f (chosen (take i marks) xs) (x ∷ []))
    ∙ after_commas-append (map f (chosen (take i marks) xs)) (f x ∷ [])
    ∙ ap (λ t. fields f (take i marks) xs ++ (codes "," ++ t)) (append-nil (f x)) in
    sends_same a c w0 w2 _ (fields f (take (i + 1) marks) xs) (sym text) (sends_more a b c w0 w1 w2 (fields f (take i marks) xs) (codes "," ++ f x) p q)

-- an element that is not chosen has none
pub field_none : {A : Type 0} (f : A → List ℕ) (marks : List Bool) (xs : List A) (i : ℕ) (x : A) (a b : WriteLog) (w0 w1 : List ℕ) → slice_get marks i ≡ Some false → slice_get xs i ≡ Some x
    → SendsAll a b w0 w1 (fields f (take i marks) xs) → SendsAll a b w0 w1 (fields f (take (i + 1) marks) xs)
field_none f marks xs i x a b w0 w1 e g p =
    sends_same a b w0 w1 _ (fields f (take (i + 1) marks) xs)
    (ap (λ l. after_commas (map f l)) (sym (append-nil (chosen (take i marks) xs)) ∙ sym (chosen_next marks xs i false x e g))) p

-- all fields, of elements that are said otherwise
pub field_all : {A : Type 0} (f : A → List ℕ) (marks : List Bool) (xs ys : List A) (i : ℕ) (a b : WriteLog) (w0 w1 : List ℕ) → length marks ≤ i → chosen marks xs ≡ ys
    → SendsAll a b w0 w1 (fields f (take i marks) xs) → SendsAll a b w0 w1 (after_commas (map f ys))
field_all f marks xs ys i a b w0 w1 all same p =
    sends_same a b w0 w1 _ (after_commas (map f ys)) (ap (λ m. fields f m xs) (take_all i marks all) ∙ ap (λ l. after_commas (map f l)) same) p

-- a field that is not written to its end
pub field_prefix : {A : Type 0} (f : A → List ℕ) (marks : List Bool) (xs ys : List A) (i : ℕ) (x : A) (a b c : WriteLog) (w0 w1 : List ℕ) → slice_get marks i ≡ Some true → slice_get xs i ≡ Some x
    → chosen marks xs ≡ ys → SendsAll a b w0 w1 (fields f (take i marks) xs) → PutsPrefix b c (w1 ++ (codes "," ++ f x)) → PutsPrefix a c (w0 ++ after_commas (map f ys))
field_prefix f marks xs ys i x a b c w0 w1 e g same p q =
    let more = chosen (drop (suc i) marks) (drop (suc i) xs) in
    let text : after_commas (map f ys) ≡ fields f (take i marks) xs ++ ((codes "," ++ f x) ++ after_commas (map f more)) =
    ap (λ l. after_commas (map f l)) (sym same ∙ chosen_apart marks xs i x e g)
    ∙ ap after_commas (map-append f (chosen (take i marks) xs) (x ∷ more))
    ∙ after_commas-append (map f (chosen (take i marks) xs)) (f x ∷ map f more) in
    sends_prefix a b c w0 w1 (after_commas (map f ys)) (fields f (take i marks) xs) (codes "," ++ f x) (after_commas (map f more)) text p q
