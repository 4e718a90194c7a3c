-- Whether the records of a text are those that were expected, and what is written where they are not.
use Rattle.std.specs.Prelude.{◌≡◌, ◌≢◌, ◌++◌, ◌+◌, ℕ, Bool, true, false, List, Option, None, Some, Result, Ok, Err, codes, decimal, slice_get, take}
use Rattle.io_text.specs.Left.{Fields}
use Rattle.io_text.specs.Log.{PutsAll, PutsPrefix, WriteLog}
use Rattle.io_text.specs.Text.{line_text}
use Rattle.text_expected.specs.declared.fault.ExpectFault.{ExpectFault}
use Rattle.text_expected.specs.declared.fault.ExpectFault.TheVariants as fault

-- This is the first place at which two lists differ: before it they are the same, and at it they are not; one of them may end there.
pub record DiffersAt (xs ys : List Fields) (n : ℕ) : Type 0 where
  pub before : take n xs ≡ take n ys
  pub other : slice_get xs n ≢ slice_get ys n

-- The line of a record, where there is one.
abbrev pub row_line : Option Fields → List ℕ
row_line None = codes "no row\n"
row_line (Some fields) = line_text fields

-- Three lines: `row N`, the header being row 1, `expected` and the row that was expected, `found` and the row that was found.
abbrev pub difference_text : List Fields → List Fields → ℕ → List ℕ
difference_text expected found n =
    codes "row " ++ (decimal (n + 1) ++ (codes "\nexpected " ++ (row_line (slice_get expected n) ++ (codes "found " ++ row_line (slice_get found n)))))

-- The records are the same, and nothing is written; or they are not, and the first difference is written; or the writer failed in it; or
-- memory ran out, and nothing is written.
abbrev pub Compares : List Fields → List Fields → WriteLog → WriteLog → Result Bool ExpectFault → Type 0
Compares expected found old new (Ok true) = (expected ≡ found) × (new ≡ old)
Compares expected found old new (Ok false) = (n : ℕ) × DiffersAt expected found n × PutsAll old new (difference_text expected found n)
Compares expected found old new (Err fault.Write) = (n : ℕ) × DiffersAt expected found n × PutsPrefix old new (difference_text expected found n)
Compares expected found old new (Err fault.Memory) = new ≡ old
