-- Private to the list that tells how far it is: what was written before the last number was told, and what since.
use Rattle.std.specs.Prelude.{◌≡◌, ◌++◌, ◌∷◌, ℕ, Bool, true, false, List, []}
use Rattle.io_text.specs.Buffer.{SendsAll}
use Rattle.io_text.specs.Log.{PutsAll, PutsPrefix, WriteLog}
use Rattle.text_causes.specs.Progress.{BreaksAfter, TellsUntil, reached_line, reached_text}
use Rattle.text_causes.specs.declared.progress.ProgressFault.{ProgressFault}
use Rattle.text_causes.specs.declared.progress.ProgressFault.TheVariants.{Lines, Rows}

-- what was written when the last of these numbers was told
abbrev pub IsBase : (ℕ → List ℕ) → List ℕ → WriteLog → WriteLog → List ℕ → Type 0
IsBase text_to [] old base before = (base ≡ old) × (before ≡ [])
IsBase text_to (n ∷ told) old base before = PutsAll old base (text_to n) × (before ≡ text_to n)

-- So much of a text was written or waits.
pub record Telling (text_to : ℕ → List ℕ) (told : List ℕ) (old new : WriteLog) (waits written : List ℕ) : Type 0 where
  pub base : WriteLog
  pub before : List ℕ
  pub since : List ℕ
  pub first : IsBase text_to told old base before
  pub sent : SendsAll base new [] waits since
  pub all : written ≡ before ++ since

-- Where no number is to be told, none was.
abbrev pub AreTold : Bool → List ℕ → WriteLog → WriteLog → Type 0
AreTold lines told err err' = (lines ≡ false → told ≡ []) × PutsAll err err' (reached_text told)

-- All is written or waits, and the numbers were told.
abbrev pub TellsSent : Bool → (ℕ → List ℕ) → List ℕ → (out out' : WriteLog) → (waits : List ℕ) → (err err' : WriteLog) → Type 0
TellsSent lines text_to text out out' waits err err' = (told : List ℕ) × Telling text_to told out out' waits text × AreTold lines told err err'

-- A writer failed; that of the lines only where there are some.
abbrev pub TellsEnd : Bool → ProgressFault → (ℕ → List ℕ) → List ℕ → (out out' err err' : WriteLog) → Type 0
TellsEnd lines Rows text_to text out out' err err' = (told : List ℕ) × BreaksAfter told text_to text out out' × AreTold lines told err err'
TellsEnd lines Lines text_to text out out' err err' = (lines ≡ true) × TellsUntil Lines text_to text out out' err err'

-- The number was told, where numbers are.
abbrev pub IsTold : Bool → ℕ → WriteLog → WriteLog → Type 0
IsTold true n err err' = PutsAll err err' (reached_line n)
IsTold false n err err' = err' ≡ err

-- The line of a number could not be written: what waited before it was not written to its end, or it was.
abbrev pub IsUntold : Bool → ProgressFault → List ℕ → ℕ → (out out' err err' : WriteLog) → Type 0
IsUntold lines Rows waited n out out' err err' = PutsPrefix out out' waited × (err' ≡ err)
IsUntold lines Lines waited n out out' err err' = (lines ≡ true) × PutsAll out out' waited × PutsPrefix err err' (reached_line n)
