-- What stands for the elements of a list, one after the other; parts of a text of which the first one failed.
use Rattle.std.proofs.Common.{◌≡◌, ◌∙◌, ◌+◌, ◌<◌, ◌++◌, ◌∷◌, [], ℕ, List, Result, sym, ap, append-nil, append_assoc, drop, get_or, length, take}
use Rattle.std.specs.List.{flat_map}
use Rattle.std.specs.Result.{IsErr}
use Rattle.std.proofs.lemmas.Grind.{flat_map-append}
use Rattle.std.proofs.lemmas.List.{take-append-drop, take_more}
use Rattle.io_text.specs.Buffer.{Sends}
use Rattle.io_text.specs.Log.{PutsPrefix, WriteLog}
use Rattle.io_text.proofs.Sending.{sends_err, sends_none, sends_prefix}

-- one element more
pub parts_more : {A B : Type 0} (f : A → List B) (xs : List A) (i : ℕ) (d : A) → i < length xs
    → flat_map f (take (i + 1) xs) ≡ flat_map f (take i xs) ++ f (get_or xs i d)
parts_more f xs i d h =
    ap (flat_map f) (take_more xs i d h) ∙ flat_map-append f (take i xs) (get_or xs i d ∷ [])
    ∙ ap (λ t. flat_map f (take i xs) ++ t) (append-nil (f (get_or xs i d)))

-- all elements, cut behind one of them
pub parts_cut : {A B : Type 0} (f : A → List B) (xs : List A) (i : ℕ) (d : A) → i < length xs
    → flat_map f xs ≡ flat_map f (take i xs) ++ (f (get_or xs i d) ++ flat_map f (drop (i + 1) xs))
parts_cut f xs i d h =
    ap (flat_map f) (sym (take-append-drop (i + 1) xs))
    ∙ flat_map-append f (take (i + 1) xs) (drop (i + 1) xs)
    ∙ ap (λ t. t ++ flat_map f (drop (i + 1) xs)) (parts_more f xs i d h)
    ∙ append_assoc (flat_map f (take i xs)) (f (get_or xs i d)) (flat_map f (drop (i + 1) xs))

pub first_failed : {T E : Type 0} (a b : WriteLog) (w0 w1 whole text more : List ℕ) (r : Result T E) → IsErr r → whole ≡ text ++ more → PutsPrefix a b (w0 ++ text)
    → Sends a b w0 w1 r whole
first_failed a b w0 w1 whole text more r failed e sent = sends_err a b w0 w1 r whole failed (sends_prefix a a b w0 w0 whole [] text more e (sends_none a w0) sent)
