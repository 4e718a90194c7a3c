-- What is kept of the statements so far: where they begin, and what they call.
use Rattle.std.specs.Prelude.{◌≡◌, ℕ, ◌<◌, Bool, true, false, ◌==◌, List, [], ◌∷◌, ◌++◌, length, count_by}
use Rattle.std.specs.List.{list_any}
use Rattle.st_words.specs.declared.word.Word.{Word}
use Rattle.st_program.specs.declared.notes.Called.{Called}
use Rattle.st_program.specs.declared.notes.Called.TheVariants as called
use Rattle.st_program.specs.declared.notes.Note.{Note}
use Rattle.st_program.specs.declared.notes.TheConstants.{MOST_STATEMENTS}

abbrev pub noted : Word → Called → Note
noted word c = record { word = word; called = c }

abbrev pub is_trigger : Called → Bool
is_trigger (called.Trigger n) = true
is_trigger _ = false

-- how many triggers are called
abbrev pub triggers : List Note → ℕ
triggers notes = count_by (λ note. is_trigger note.called) notes

abbrev pub is_of_trigger : ℕ → Called → Bool
is_of_trigger number (called.Trigger n) = n == number
is_of_trigger number _ = false

abbrev pub is_of_block : ℕ → Called → Bool
is_of_block number (called.Block n preset) = n == number
is_of_block number _ = false

-- Whether the trigger of this variable, or the block of this number, is called already.
abbrev pub has_trigger : ℕ → List Note → Bool
has_trigger number notes = list_any (λ note. is_of_trigger number note.called) notes

abbrev pub has_block : ℕ → List Note → Bool
has_block number notes = list_any (λ note. is_of_block number note.called) notes

-- One statement more is noted, where there is room for it.
abbrev pub Adds : List Note → Note → List Note → Type 0
Adds before note after = (after ≡ before ++ note ∷ []) × (length before < MOST_STATEMENTS)
