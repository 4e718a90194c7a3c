-- The records that are passed in a text.
use Rattle.std.proofs.Common.{◌≡◌, ◌∙◌, ◌∷◌, [], ℕ, suc, zero, Bool, true, false, List, None, ap, drop, get_or, refl, sym}
use Rattle.std.specs.Prelude.{Result, Ok, Err, IfOk}
use Rattle.std.specs.Borrow.{Bor}
use Rattle.csv.specs.Records.{field_at}
use Rattle.csv.specs.declared.reader.Reader.{Reader}
use Rattle.io_text.specs.Left.{Fields, Left, TakesFirst}
use Rattle.cli_names.specs.Steps.{PassesTwo}

pub none_read : (xs : List Fields) (found : Bool) (fields : Fields) (new : Reader (Bor (List ℕ))) → found ≡ false → TakesFirst xs found fields new → xs ≡ []
none_read [] found fields new e h = refl
none_read (x ∷ xs) found fields new e h = let bad : true ≡ false = sym h.0 ∙ e in cc

pub one_read : (xs : List Fields) (found : Bool) (fields : Fields) (new : Reader (Bor (List ℕ))) → found ≡ true → TakesFirst xs found fields new
    → (rest : List Fields) × (xs ≡ fields ∷ rest) × Left new rest
one_read [] found fields new e h = let bad : true ≡ false = sym e ∙ h in cc
one_read (x ∷ xs) found fields new e (is, same, left) = (xs, ap (λ f. f ∷ xs) (sym same), left)

-- the first one was there
pub two_read : (xs rest : List Fields) (first : Fields) (found : Bool) (fields : Fields) (new : Reader (Bor (List ℕ))) → xs ≡ first ∷ rest
    → TakesFirst rest found fields new → PassesTwo xs found new
two_read xs [] first found fields new is h = rw (is, h) refl
two_read xs (r ∷ rest) first found fields new is (there, same, left) = rw (is, there) left

pub field_none : (fs : Fields) (i : ℕ) → field_at fs i ≡ None → get_or fs i [] ≡ []
unfolding field_at
field_none [] i e = refl
field_none (f ∷ fs) zero e = cc
field_none (f ∷ fs) (suc i) e = field_none fs i e

-- the second one too, if memory doesn't run out
pub if_two : {E : Type 0} (xs : List Fields) (found : Bool) (first : Fields) (mid : Reader (Bor (List ℕ))) (r : Result Bool E) (fields : Fields)
    (new : Reader (Bor (List ℕ))) → found ≡ true → TakesFirst xs found first mid
    → ((rest : List Fields) → Left mid rest → IfOk r (λ there. TakesFirst rest there fields new)) → IfOk r (λ there. PassesTwo xs there new)
if_two xs found first mid (Ok there) fields new is h more =
    let (rest, same, left) = one_read xs found first mid is h in two_read xs rest first there fields new same (more rest left)
if_two xs found first mid (Err e) fields new is h more = tt

pub left_two : (xs : List Fields) (found : Bool) (new : Reader (Bor (List ℕ))) → found ≡ true → PassesTwo xs found new → Left new (drop 2 xs)
left_two xs true new e h = h
left_two xs false new e h = cc

pub none_left : (xs : List Fields) (found : Bool) (new : Reader (Bor (List ℕ))) → found ≡ false → PassesTwo xs found new → drop 2 xs ≡ []
none_left xs true new e h = cc
none_left xs false new e h = h
