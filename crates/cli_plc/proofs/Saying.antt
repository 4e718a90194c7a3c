-- What is said was written, or a prefix of it.
use Rattle.std.proofs.Common.{◌≡◌, ◌⊎◌, ℕ, List, Result, Ok, Err, inl, inr}
use Rattle.io_text.specs.Log.{Puts, PutsAll, PutsPrefix, WriteLog}
use Rattle.cli_plc.specs.Xml.{placed}

pub either : {T E : Type 0} (a b : WriteLog) (xs : List ℕ) (r : Result T E) → Puts a b r xs → PutsAll a b xs ⊎ PutsPrefix a b xs
either a b xs (Ok x) p = inl p
either a b xs (Err x) p = inr p

-- A line with a number that is given by other names.
pub same_text : {T E : Type 0} (a b : WriteLog) (r : Result T E) (line : List ℕ) (n m : ℕ) (s t : List ℕ) → n ≡ m → s ≡ t
    → Puts a b r (placed line n s) → Puts a b r (placed line m t)
same_text a b r line n m s t number said h = rw (number, said) at h
