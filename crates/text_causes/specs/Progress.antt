-- A list that tells how far it is: between its rows, lines of the numbers up to which they are written.
use Rattle.std.specs.Prelude.{◌≡◌, ◌++◌, ◌∷◌, ℕ, List, [], codes, decimal}
use Rattle.io_text.specs.Log.{PutsAll, PutsPrefix, WriteLog}
use Rattle.text_causes.specs.declared.progress.ProgressFault.{ProgressFault}
use Rattle.text_causes.specs.declared.progress.ProgressFault.TheVariants.{Lines, Rows}

-- `reached N`
abbrev pub reached_line : ℕ → List ℕ
reached_line n = codes "reached " ++ (decimal n ++ codes "\n")

-- the lines of the numbers that were told, of which the last one is named first
abbrev pub reached_text : List ℕ → List ℕ
reached_text [] = []
reached_text (n ∷ told) = reached_text told ++ reached_line n

-- The text is written, and the lines of some numbers.
abbrev pub TellsAll : List ℕ → WriteLog → WriteLog → WriteLog → WriteLog → Type 0
TellsAll text out out' err err' = PutsAll out out' text × ((told : List ℕ) × PutsAll err err' (reached_text told))

-- What a writer took that failed once these numbers were told: the whole text up to the last of them, and a part of what follows.
abbrev pub BreaksAfter : List ℕ → (ℕ → List ℕ) → List ℕ → WriteLog → WriteLog → Type 0
BreaksAfter [] text_to text old new = PutsPrefix old new text
BreaksAfter (n ∷ told) text_to text old new =
    (then : WriteLog) × (more : List ℕ) × (text ≡ text_to n ++ more) × PutsAll old then (text_to n) × PutsPrefix then new more

-- A writer failed: that of the rows, with the lines of all numbers that were told before; or that of the lines, at the last one, when the text up
-- to its number was written whole.
abbrev pub TellsUntil : ProgressFault → (ℕ → List ℕ) → List ℕ → WriteLog → WriteLog → WriteLog → WriteLog → Type 0
TellsUntil Rows text_to text out out' err err' = (told : List ℕ) × BreaksAfter told text_to text out out' × PutsAll err err' (reached_text told)
TellsUntil Lines text_to text out out' err err' = (n : ℕ) × (told : List ℕ) × PutsAll out out' (text_to n) × PutsPrefix err err' (reached_text (n ∷ told))
