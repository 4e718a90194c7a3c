-- The fields of those items that are asked for, each after a comma, one item after the other.
use Rattle.std.proofs.Common.{◌≡◌, ◌∙◌, ◌+◌, ◌<◌, ◌++◌, ◌∷◌, [], Bool, ℕ, suc, List, true, add-one, ap, append-nil, codes, drop, filter, get_or, length, map, sym, take}
use Rattle.std.proofs.Math.Seq.{take-suc, drop-cons}
use Rattle.std.proofs.lemmas.List.{map-append, take-append-drop}
use Rattle.std.proofs.lemmas.List.Elements.{filter-append}
use Rattle.io_text.specs.Text.{after_commas}
use Rattle.io_text.proofs.Commas.{after_commas-append}

-- the fields of the items that are asked for
abbrev pub chosen : {A : Type 0} → (A → Bool) → (A → List ℕ) → List A → List ℕ
chosen p f items = after_commas (map f (filter p items))

chosen-append : {A : Type 0} (p : A → Bool) (f : A → List ℕ) (xs ys : List A) → chosen p f (xs ++ ys) ≡ chosen p f xs ++ chosen p f ys
chosen-append p f xs ys =
    ap (λ l. after_commas (map f l)) (filter-append p xs ys)
    ∙ ap after_commas (map-append f (filter p xs) (filter p ys))
    ∙ after_commas-append (map f (filter p xs)) (map f (filter p ys))

chosen_one : {A : Type 0} (p : A → Bool) (f : A → List ℕ) (x : A) → p x ≡ true → chosen p f (x ∷ []) ≡ codes "," ++ f x
chosen_one p f x h = rw h (ap (λ t. codes "," ++ t) (append-nil (f x)))

-- one item more, which is asked for
pub chosen_more : {A : Type 0} (p : A → Bool) (f : A → List ℕ) (items : List A) (i : ℕ) (x : A) → i < length items → x ≡ get_or items i x → p x ≡ true
    → chosen p f (take i items) ++ (codes "," ++ f x) ≡ chosen p f (take (i + 1) items)
chosen_more p f items i x h e holds =
    let longer : take (i + 1) items ≡ take i items ++ x ∷ [] = rw (add-one i) (take-suc items i x h ∙ ap (λ z. take i items ++ z ∷ []) (sym e)) in
    sym (ap (chosen p f) longer ∙ chosen-append p f (take i items) (x ∷ []) ∙ ap (λ t. chosen p f (take i items) ++ t) (chosen_one p f x holds))

-- all fields, cut at an item that is asked for
pub chosen_cut : {A : Type 0} (p : A → Bool) (f : A → List ℕ) (items : List A) (i : ℕ) (x : A) → i < length items → x ≡ get_or items i x → p x ≡ true
    → chosen p f items ≡ chosen p f (take i items) ++ ((codes "," ++ f x) ++ chosen p f (drop (suc i) items))
chosen_cut p f items i x h e holds =
    let behind : drop i items ≡ (x ∷ []) ++ drop (suc i) items = drop-cons items i x h ∙ ap (λ z. z ∷ drop (suc i) items) (sym e) in
    ap (chosen p f) (sym (take-append-drop i items) ∙ ap (λ t. take i items ++ t) behind)
    ∙ chosen-append p f (take i items) ((x ∷ []) ++ drop (suc i) items)
    ∙ ap (λ t. chosen p f (take i items) ++ t) (chosen-append p f (x ∷ []) (drop (suc i) items))
    ∙ ap (λ t. chosen p f (take i items) ++ (t ++ chosen p f (drop (suc i) items))) (chosen_one p f x holds)
