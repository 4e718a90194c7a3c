-- The rows of items, one after the other.
use Rattle.diagram_program.proofs.Ranges.{range_more, range_parts}
use Rattle.std.proofs.Common.{◌≡◌, ◌∙◌, ◌+◌, ◌-◌, ◌<◌, append_assoc, length, length-append, ◌++◌, ◌∷◌, [], ℕ, List, ap, arith, append-nil, add-one}
use Rattle.std.specs.List.{flat_map, range_with_len}
use Rattle.std.proofs.lemmas.Grind.{flat_map-append}
use Rattle.io_text.specs.Buffer.{SendsAll}
use Rattle.io_text.specs.Log.{PutsPrefix, WriteLog}
use Rattle.io_text.specs.Left.{Fields}
use Rattle.io_text.specs.Text.{lines_text}
use Rattle.io_text.proofs.Items.{rows_sent, rows_prefix}

-- ---- the rows of numbers from 0 on

abbrev pub rows_to : (ℕ → List Fields) → ℕ → List Fields
rows_to f n = flat_map f (range_with_len 0 n)

rows_next : (f : ℕ → List Fields) (i : ℕ) → rows_to f (i + 1) ≡ rows_to f i ++ f i
rows_next f i =
    let here : 0 + i ≡ i = omega arith in
    ap (λ n. rows_to f n) (add-one i) ∙ ap (flat_map f) (range_more 0 i ∙ ap (λ n. range_with_len 0 i ++ n ∷ []) here)
    ∙ flat_map-append f (range_with_len 0 i) (i ∷ []) ∙ ap (λ t. rows_to f i ++ t) (append-nil (f i))

-- the rows of all of n numbers, cut at one of them
rows_behind : (f : ℕ → List Fields) (i n : ℕ) → i < n → rows_to f n ≡ rows_to f i ++ (f i ++ flat_map f (range_with_len (0 + (i + 1)) (n - (i + 1))))
rows_behind f i n h =
    let rest = flat_map f (range_with_len (0 + (i + 1)) (n - (i + 1))) in
    let all : n ≡ (i + 1) + (n - (i + 1)) = omega (arith, h) in
    ap (λ m. rows_to f m) all ∙ ap (flat_map f) (range_parts 0 (i + 1) (n - (i + 1)))
    ∙ flat_map-append f (range_with_len 0 (i + 1)) (range_with_len (0 + (i + 1)) (n - (i + 1)))
    ∙ ap (λ t. t ++ rest) (rows_next f i) ∙ append_assoc (rows_to f i) (f i) rest

-- the rows of one number more are written
pub next_sent : (a b c : WriteLog) (w0 w1 w2 : List ℕ) (f : ℕ → List Fields) (i : ℕ) → SendsAll a b w0 w1 (lines_text (rows_to f i))
    → SendsAll b c w1 w2 (lines_text (f i)) → SendsAll a c w0 w2 (lines_text (rows_to f (i + 1)))
next_sent a b c w0 w1 w2 f i = rows_sent a b c w0 w1 w2 (rows_to f i) (rows_to f (i + 1)) (f i) (rows_next f i)

pub next_counted : (f : ℕ → List Fields) (i rows more : ℕ) → rows ≡ length (rows_to f i) → more ≡ length (f i) → rows + more ≡ length (rows_to f (i + 1))
next_counted f i rows more before now = omega (arith, before, now, ap length (rows_next f i), length-append (rows_to f i) (f i))

-- the rows of one number are not written to their end
pub next_cut : (a b c : WriteLog) (w0 w1 : List ℕ) (f : ℕ → List Fields) (i n : ℕ) → i < n → SendsAll a b w0 w1 (lines_text (rows_to f i))
    → PutsPrefix b c (w1 ++ lines_text (f i)) → PutsPrefix a c (w0 ++ lines_text (rows_to f n))
next_cut a b c w0 w1 f i n h = rows_prefix a b c w0 w1 (rows_to f i) (rows_to f n) (f i) (flat_map f (range_with_len (0 + (i + 1)) (n - (i + 1)))) (rows_behind f i n h)
