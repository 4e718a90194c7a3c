-- The rows of a run in brief, scan after scan.
use Rattle.std.proofs.Common.{◌≡◌, ◌∙◌, ◌+◌, ◌-◌, ◌<◌, ◌≤◌, ◌++◌, ◌∷◌, ◌==◌, ◌||◌, [], ℕ, zero, suc, Bool, true, false, List, add-one, append-nil, append_assoc, ap, arith, cond, drop, get_or, length, map, not, refl, sym}
use Rattle.std.proofs.Math.Seq.{drop-cons}
use Rattle.std.proofs.lemmas.Bool.{ne_eqb}
use Rattle.std.proofs.lemmas.List.{drop_all, get_or_default, length-drop}
use Rattle.io_text.specs.Left.{Fields}
use Rattle.scan_cycle.specs.Runs.{OneScan}
use Rattle.text_runs.specs.Rows.{has_row, scan_at}
use Rattle.text_runs.specs.RunText.{brief_after, brief_scans, gives_same, scan_row}

-- those that have a row, from this place on
abbrev pub brief_from : List OneScan → ℕ → List OneScan
brief_from scans zero = brief_scans scans
brief_from scans (suc n) = brief_after (scan_at scans n) (drop (suc n) scans)

-- ---- from one place to the next

flipped : {A : Type 0} (b : Bool) (x y : A) → cond b x y ≡ cond (not b) y x
flipped true x y = refl
flipped false x y = refl

by_row : (before scan : OneScan) (more : List OneScan)
    → brief_after before (scan ∷ more) ≡ cond ((length more == 0) || not (gives_same before scan)) (scan ∷ brief_after scan more) (brief_after scan more)
by_row before scan [] = refl
by_row before scan (next ∷ more) =
    let some : (length (next ∷ more) == 0) ≡ false = ne_eqb (length (next ∷ more)) 0 (λ e. absurd (omega (arith, e))) in
    flipped (gives_same before scan) (brief_after scan (next ∷ more)) (scan ∷ brief_after scan (next ∷ more))
    ∙ ap (λ b. cond (b || not (gives_same before scan)) (scan ∷ brief_after scan (next ∷ more)) (brief_after scan (next ∷ more))) (sym some)

last_is : (all n : ℕ) → n < all → (all - suc n == 0) ≡ (n + 1 == all)
last_is all n h = grind arith

from_next : (scans : List OneScan) (n : ℕ) (x : OneScan) → n < length scans → x ≡ get_or scans n x
    → brief_from scans n ≡ cond (has_row scans n) (x ∷ brief_from scans (suc n)) (brief_from scans (suc n))
from_next [] n x h e = absurd (omega (arith, h))
from_next (first ∷ more) zero x h e = ap (λ y. y ∷ brief_after first more) (sym e)
from_next scans (suc n) x h e =
    let before = scan_at scans n in
    let more = drop (suc (suc n)) scans in
    let here : drop (suc n) scans ≡ x ∷ more = drop-cons scans (suc n) x h ∙ ap (λ y. y ∷ more) (sym e) in
    let same : x ≡ scan_at scans (suc n) = e ∙ get_or_default scans (suc n) x _ h in
    let last : (length more == 0) ≡ (suc n + 1 == length scans) =
    ap (λ size. size == 0) (length-drop (suc (suc n)) scans) ∙ last_is (length scans) (suc n) h in
    ap (brief_after before) here
    ∙ by_row before x more
    ∙ ap (λ b. cond (b || not (gives_same before x)) (x ∷ brief_after x more) (brief_after x more)) last
    ∙ ap (λ y. cond ((suc n + 1 == length scans) || not (gives_same before y)) (x ∷ brief_after y more) (brief_after y more)) same

from_end : (scans : List OneScan) (n : ℕ) → length scans ≤ n → brief_from scans n ≡ []
from_end [] zero h = refl
from_end (scan ∷ scans) zero h = absurd (omega (arith, h))
from_end scans (suc n) h = ap (brief_after (scan_at scans n)) (drop_all (suc n) scans h)

-- ---- the rows that are written

-- The rows before this place are these.
abbrev pub IsFront : List OneScan → ℕ → List Fields → Type 0
IsFront scans n front = map scan_row (brief_scans scans) ≡ front ++ map scan_row (brief_from scans n)

taken : (b : Bool) (scan : OneScan) (more : List OneScan) → b ≡ true → cond b (scan ∷ more) more ≡ scan ∷ more
taken b scan more e = rw e refl

left_out : (b : Bool) (scan : OneScan) (more : List OneScan) → b ≡ false → cond b (scan ∷ more) more ≡ more
left_out b scan more e = rw e refl

-- a scan that has a row: the row stands behind those before it
pub row_here : (scans : List OneScan) (n : ℕ) (x : OneScan) (front : List Fields) → n < length scans → x ≡ get_or scans n x → has_row scans n ≡ true → IsFront scans n front
    → map scan_row (brief_scans scans) ≡ front ++ (scan_row x ∷ map scan_row (brief_from scans (n + 1)))
row_here scans n x front h e has cut =
    cut
    ∙ ap (λ l. front ++ map scan_row l) (from_next scans n x h e ∙ taken (has_row scans n) x (brief_from scans (suc n)) has)
    ∙ ap (λ m. front ++ (scan_row x ∷ map scan_row (brief_from scans m))) (sym (add-one n))

pub row_more : (scans : List OneScan) (n : ℕ) (x : OneScan) (front : List Fields) → n < length scans → x ≡ get_or scans n x → has_row scans n ≡ true → IsFront scans n front
    → IsFront scans (n + 1) (front ++ scan_row x ∷ [])
row_more scans n x front h e has cut =
    row_here scans n x front h e has cut ∙ sym (append_assoc front (scan_row x ∷ []) (map scan_row (brief_from scans (n + 1))))

-- one that has none
pub row_none : (scans : List OneScan) (n : ℕ) (front : List Fields) → n < length scans → has_row scans n ≡ false → IsFront scans n front → IsFront scans (n + 1) front
row_none scans n front h lacks cut =
    let x = scan_at scans n in
    cut
    ∙ ap (λ l. front ++ map scan_row l)
    (from_next scans n x h (get_or_default scans n _ x h) ∙ left_out (has_row scans n) x (brief_from scans (suc n)) lacks)
    ∙ ap (λ m. front ++ map scan_row (brief_from scans m)) (sym (add-one n))

pub all_rows : (scans : List OneScan) (n : ℕ) (front : List Fields) → length scans ≤ n → IsFront scans n front → front ≡ map scan_row (brief_scans scans)
all_rows scans n front h cut = sym (cut ∙ ap (λ l. front ++ map scan_row l) (from_end scans n h) ∙ append-nil front)
