-- The rows of items, one after the other.
use Rattle.std.proofs.Common.{◌≡◌, ◌∙◌, ◌+◌, ◌++◌, ◌∷◌, [], ℕ, suc, List, Some, sym, ap, append-nil, take, drop, slice_get, add-one}
use Rattle.std.specs.List.{flat_map}
use Rattle.std.proofs.Math.Seq.{take-suc, drop-cons}
use Rattle.std.proofs.lemmas.Grind.{flat_map-append}
use Rattle.std.proofs.lemmas.List.{take-append-drop}
use Rattle.std.proofs.lemmas.List.Concat.{flat_map-cons}
use Rattle.std.proofs.lemmas.Option.{get_or_from_slice_get, slice_get_within}
use Rattle.io_text.specs.Buffer.{SendsAll}
use Rattle.io_text.specs.Log.{PutsPrefix, WriteLog}
use Rattle.io_text.proofs.Sending.{sends_prefix, sends_more, sends_same}
use Rattle.io_text.specs.Left.{Fields}
use Rattle.io_text.specs.Text.{lines_text}
use Rattle.io_text.proofs.Commas.{lines_text-append}

-- one item more
pub rows_more : {A : Type 0} (f : A → List Fields) (xs : List A) (i : ℕ) (x : A) (ys : List Fields) → slice_get xs i ≡ Some x → f x ≡ ys
    → flat_map f (take (i + 1) xs) ≡ flat_map f (take i xs) ++ ys
rows_more f xs i x ys here is =
    let next : take (i + 1) xs ≡ take i xs ++ x ∷ [] =
    rw (add-one i) (take-suc xs i x (slice_get_within xs i x here) ∙ ap (λ z. take i xs ++ z ∷ []) (get_or_from_slice_get xs i x x here)) in
    ap (flat_map f) next ∙ flat_map-append f (take i xs) (x ∷ []) ∙ ap (λ t. flat_map f (take i xs) ++ t) (append-nil (f x) ∙ is)

-- all items, cut at one of them
pub rows_apart : {A : Type 0} (f : A → List Fields) (xs : List A) (i : ℕ) (x : A) (ys : List Fields) → slice_get xs i ≡ Some x → f x ≡ ys
    → flat_map f xs ≡ flat_map f (take i xs) ++ (ys ++ flat_map f (drop (suc i) xs))
rows_apart f xs i x ys here is =
    let behind : drop i xs ≡ x ∷ drop (suc i) xs =
    drop-cons xs i x (slice_get_within xs i x here) ∙ ap (λ z. z ∷ drop (suc i) xs) (get_or_from_slice_get xs i x x here) in
    ap (flat_map f) (sym (take-append-drop i xs) ∙ ap (λ t. take i xs ++ t) behind)
    ∙ flat_map-append f (take i xs) (x ∷ drop (suc i) xs)
    ∙ ap (λ t. flat_map f (take i xs) ++ t) (flat_map-cons f x (drop (suc i) xs) ∙ ap (λ t. t ++ flat_map f (drop (suc i) xs)) is)

-- the rows of one item more
pub rows_sent : (a b c : WriteLog) (w0 w1 w2 : List ℕ) (rows longer more : List Fields) → longer ≡ rows ++ more → SendsAll a b w0 w1 (lines_text rows)
    → SendsAll b c w1 w2 (lines_text more) → SendsAll a c w0 w2 (lines_text longer)
rows_sent a b c w0 w1 w2 rows longer more e p q =
    sends_same a c w0 w2 (lines_text rows ++ lines_text more) (lines_text longer) (sym (ap lines_text e ∙ lines_text-append rows more))
    (sends_more a b c w0 w1 w2 (lines_text rows) (lines_text more) p q)

-- rows that are not written to their end
pub rows_prefix : (a b c : WriteLog) (w0 w1 : List ℕ) (rows all more rest : List Fields) → all ≡ rows ++ (more ++ rest) → SendsAll a b w0 w1 (lines_text rows)
    → PutsPrefix b c (w1 ++ lines_text more) → PutsPrefix a c (w0 ++ lines_text all)
rows_prefix a b c w0 w1 rows all more rest e p q =
    sends_prefix a b c w0 w1 (lines_text all) (lines_text rows) (lines_text more) (lines_text rest)
    (ap lines_text e ∙ lines_text-append rows (more ++ rest) ∙ ap (λ t. lines_text rows ++ t) (lines_text-append more rest)) p q
