-- What is said was written, or a prefix of it.
use Rattle.std.proofs.Common.{◌≡◌, ◌⊎◌, ◌≤◌, ◌==◌, Bool, false, ℕ, List, Result, Ok, Err, arith, inl, inr}
use Rattle.std.proofs.lemmas.Bool.Decides.{nat_tests}
use Rattle.io_text.specs.Log.{Puts, PutsAll, PutsPrefix, WriteLog}
use Rattle.cli_import.specs.Lines.{numbered_text}

pub either : {T E : Type 0} (a b : WriteLog) (xs : List ℕ) (r : Result T E) → Puts a b r xs → PutsAll a b xs ⊎ PutsPrefix a b xs
either a b xs (Ok x) p = inl p
either a b xs (Err x) p = inr p

-- A line with a number that is given by other names.
pub same_text : {T E : Type 0} (a b : WriteLog) (r : Result T E) (line : List ℕ) (n m : ℕ) (s t : List ℕ) → n ≡ m → s ≡ t
    → Puts a b r (numbered_text line n s) → Puts a b r (numbered_text line m t)
same_text a b r line n m s t number said h = rw (number, said) at h

-- A list that isn't empty has an element.
pub some_in : (n : ℕ) (is_empty : Bool) → is_empty ≡ (n == 0) → is_empty ≡ false → 1 ≤ n
some_in n is_empty is filled = grind (arith, nat_tests)
