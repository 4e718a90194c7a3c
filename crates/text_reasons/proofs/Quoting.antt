-- A list that a loop goes through, cut where it is; and texts that are sent one after the other.
use Rattle.std.proofs.Common.{◌≡◌, ◌-◌, true, ℕ, zero, suc, ◌+◌, ◌<◌, List, [], ◌∷◌, ◌++◌, length, take, drop, map, get_or, false, ◌==◌, refl, ap, sym, arith, Result, IsErr}
use Rattle.std.specs.List.{slice_split}
use Rattle.std.proofs.lemmas.List.Splits.{length-slice_split}
use Rattle.std.proofs.lemmas.List.Sums.{count_by-le-length}
use Rattle.std.proofs.lemmas.Bool.{ne_eqb}
use Rattle.std.proofs.lemmas.Option.{slice_get_past}
use Rattle.diagram_program.specs.Bytes.{line_feed}
use Rattle.io_text.specs.Buffer.{Sends}
use Rattle.io_text.specs.Log.{PutsPrefix, WriteLog}
use Rattle.io_text.proofs.Sending.{sends_err, sends_none, sends_prefix}
use Rattle.text_reasons.specs.Reasons.{near, quote}

pub map_more : {A B : Type 0} (f : A → B) (xs : List A) (i : ℕ) (other : A) (y : B) → i < length xs → y ≡ f (get_or xs i other)
    → map f (take (i + 1) xs) ≡ map f (take i xs) ++ (y ∷ [])
map_more f [] i other y h is = absurd (omega (arith, h))
map_more f (x ∷ xs) zero other y h is = ap (λ b. b ∷ []) (sym is)
map_more f (x ∷ xs) (suc i) other y h is =
    let one : suc i + 1 ≡ suc (i + 1) = omega arith in
    rw one (ap (λ ys. f x ∷ ys) (map_more f xs i other y (omega (arith, h)) is))

pub map_cut : {A B : Type 0} (f : A → B) (xs : List A) (i : ℕ) (other : A) (y : B) → i < length xs → y ≡ f (get_or xs i other)
    → map f xs ≡ map f (take i xs) ++ ((y ∷ []) ++ map f (drop (i + 1) xs))
map_cut f [] i other y h is = absurd (omega (arith, h))
map_cut f (x ∷ xs) zero other y h is = ap (λ b. b ∷ map f xs) (sym is)
map_cut f (x ∷ xs) (suc i) other y h is =
    let one : suc i + 1 ≡ suc (i + 1) = omega arith in
    rw one (ap (λ ys. f x ∷ ys) (map_cut f xs i other y (omega (arith, h)) is))

-- What was sent when a call failed that sent this text, which more was to follow.
pub first_failed : {T E : Type 0} (a b : WriteLog) (w0 w1 whole text more : List ℕ) (r : Result T E) → IsErr r → whole ≡ text ++ more → PutsPrefix a b (w0 ++ text)
    → Sends a b w0 w1 r whole
first_failed a b w0 w1 whole text more r failed e sent = sends_err a b w0 w1 r whole failed (sends_prefix a a b w0 w0 whole [] text more e (sends_none a w0) sent)

-- A text has at most one line more than it has bytes.
pub none_past : (text : List ℕ) (line : ℕ) → length text < line → quote text false (line + 1) ≡ []
none_past text line h =
    let lines = slice_split (λ b. b == line_feed) text in
    let few = length-slice_split (λ b. b == line_feed) text in
    let fewer = count_by-le-length (λ b. b == line_feed) text in
    let none = slice_get_past lines line (omega (arith, h, few, fewer)) in
    let one : line + 1 ≡ suc line = omega arith in
    rw (one, none) refl

-- Each line but 0 is one of a text.
pub near_some : (text : List ℕ) (line : ℕ) (under : List ℕ) → (line ≡ 0 → ⊥)
    → near text line under ≡ quote text false (line - 1) ++ (quote text true line ++ (under ++ quote text false (line + 1)))
near_some text line under h =
    let other : (line == 0) ≡ false = ne_eqb line 0 h in
    rw other refl
